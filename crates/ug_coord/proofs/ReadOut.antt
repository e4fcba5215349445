-- The unread part of the bytes that came.
use Rattle.std.proofs.Common.{◌≡◌, ◌≢◌, inl, inr, ℕ, ◌<◌, ◌∙◌, List, length, Option, None, Some, refl, sym, ap, subst}
use Rattle.std.proofs.lemmas.Bool.{cases_eq, false≢true}
use Rattle.std.proofs.lemmas.List.{get_or-set_other, get_or-set_same, length-set}
use Rattle.std.specs.Option.{ForSome}
use Rattle.std.specs.Prelude.{slice_index_or, slice_set}
use Rattle.ug_io.specs.Crews.{CrewSeen}
use Rattle.ug_stream.specs.declared.next.Next.TheVariants.{BadFrame, NeedMore}
use Rattle.ug_stream.specs.Streams.{Waiting, fed, first, shut}
use Rattle.ug_coord.specs.Actions.{AreReadOut, HasMore}
use Rattle.ug_coord.specs.Reading.{AreReadBut, HasFed, HasLacked, HasRead}

-- ---- of one rank at most

none_is : (rank : ℕ) → None ≡ Some rank → ⊥
none_is rank same = let bad : None ≡ Some rank = same in cc

one_is : (rank other : ℕ) → Some rank ≡ Some other → other ≡ rank
one_is rank other same = let so : Some rank ≡ Some other = same in cc

-- that may be none, or any that is there, where there is more of none
pub but_none : (streams : List Waiting) → AreReadOut streams → AreReadBut None streams
but_none streams all = record {
  there = λ rank same. absurd (none_is rank same);
  only = λ rank has. absurd (all rank has);
}

but_one : (streams : List Waiting) (rank : ℕ) → rank < length streams → AreReadOut streams
    → AreReadBut (Some rank) streams
but_one streams rank there all = record {
  there = λ other same. subst (λ (r : ℕ). r < length streams) (sym (one_is rank other same)) there;
  only = λ other has. absurd (all other has);
}

-- ---- the stream of one rank is another

-- what another has is what it had
other_had : (streams : List Waiting) (rank other : ℕ) (stream : Waiting) → other ≢ rank
    → HasMore (slice_index_or (slice_set streams rank stream) other first)
    → HasMore (slice_index_or streams other first)
other_had streams rank other stream apart has =
    subst HasMore (get_or-set_other streams rank other stream first apart) has

this_has : (streams : List Waiting) (rank other : ℕ) (stream : Waiting) → rank < length streams → other ≡ rank
    → HasMore (slice_index_or (slice_set streams rank stream) other first) → HasMore stream
this_has streams rank other stream there same has =
    subst HasMore (ap (λ (n : ℕ). slice_index_or (slice_set streams rank stream) n first) same
    ∙ get_or-set_same streams rank stream first there) has

-- more may be there of this rank
set_but : (streams : List Waiting) (rank : ℕ) (stream : Waiting) → AreReadBut (Some rank) streams
    → AreReadBut (Some rank) (slice_set streams rank stream)
set_but streams rank stream but = record {
  there = subst (λ (n : ℕ). ForSome (Some rank) (λ r. r < n)) (sym (length-set streams rank stream)) but.there;
  only = λ other has. elim (cases_eq other rank) [
    | inl same ↦ ap Some (sym same)
    | inr apart ↦ but.only other (other_had streams rank other stream apart has)
  ];
}

-- and is not
set_all : (streams : List Waiting) (rank : ℕ) (stream : Waiting) → ¬ HasMore stream → AreReadBut (Some rank) streams
    → AreReadOut (slice_set streams rank stream)
set_all streams rank stream out but other has = elim (cases_eq other rank) [
  | inl same ↦ out (this_has streams rank other stream (but.there rank refl) same has)
  | inr apart ↦ apart (one_is rank other
      (but.only other (other_had streams rank other stream apart has)))
]

-- ---- by what came

pub fed_but : (a c : CrewSeen) (old new : List Waiting) (rank : ℕ) → HasFed a c old new rank
    → rank < length old → AreReadOut old → AreReadBut (Some rank) new
fed_but a c old new rank h there all =
    subst (AreReadBut (Some rank)) (sym h.streams)
    (set_but old rank (fed (slice_index_or old rank first) h.bytes) (but_one old rank there all))

-- no more is read of a stream that is shut
pub lacked_but : (a c : CrewSeen) (last : Option ℕ) (old new : List Waiting) (rank : ℕ) → HasLacked a c old new rank
    → rank < length old → AreReadOut old → AreReadBut last old → AreReadBut last new
lacked_but a c last old new rank h there all but =
    subst (AreReadBut last) (sym h.streams) (record {
      there = subst (λ (n : ℕ). ForSome last (λ r. r < n))
          (sym (length-set old rank (shut (slice_index_or old rank first)))) but.there;
      only = λ other has. absurd (set_all old rank (shut (slice_index_or old rank first))
          (λ now. false≢true (sym now.fine)) (but_one old rank there all) other has);
    })

-- ---- by what is read

-- a report, behind which another may be
pub took_but : (old new : List Waiting) (rank : ℕ) (stream : Waiting) → new ≡ slice_set old rank stream
    → AreReadBut (Some rank) old → AreReadBut (Some rank) new
took_but old new rank stream set but =
    subst (AreReadBut (Some rank)) (sym set) (set_but old rank stream but)

-- a frame that is cut short
pub short_out : (old new : List Waiting) (rank : ℕ) → HasRead old new rank NeedMore → AreReadBut (Some rank) old
    → AreReadOut new
short_out old new rank read but =
    subst AreReadOut (sym read.set)
    (set_all old rank read.stream
    (λ has. (subst HasMore read.is.same has).more read.is.short) but)

-- bad bytes
pub bad_out : (old new : List Waiting) (rank at : ℕ) → HasRead old new rank (BadFrame at)
    → AreReadBut (Some rank) old → AreReadOut new
bad_out old new rank at read but =
    subst AreReadOut (sym read.set)
    (set_all old rank read.stream (λ has. false≢true (sym has.fine ∙ read.is.final)) but)
