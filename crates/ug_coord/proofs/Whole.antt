-- A slice of a vector that was lent whole.
use Rattle.std.proofs.Common.{◌≡◌, ℕ, ◌<◌, List, ◌++◌, length, take, drop, sym, ap, subst, ◌∙◌}
use Rattle.std.proofs.lemmas.List.{length-set, take_at, with_items_is}
use Rattle.std.specs.Prelude.{Vec, slice_index_or}
use Rattle.std.specs.Vec.{with_items}
use Rattle.ug_io.specs.Crews.{CrewSeen}
use Rattle.ug_stream.specs.Streams.{Waiting, fed, first, shut}
use Rattle.ug_frames.specs.declared.report.Report.{Report}
use Rattle.ug_stream.specs.declared.next.Next.{Next}
use Rattle.ug_coord.specs.Reading.{HasBroken, HasFed, HasGone, HasLacked, HasRead}

abbrev pub lent : ℕ → List Waiting → List Waiting → List Waiting
lent n old new = take n (new ++ drop (length new) old)

-- the vector is as long as the slice that it is lent as
pub as_long : {slice items : List Waiting} {n : ℕ} → slice ≡ items → length slice ≡ n → length items ≡ n
as_long same is = ap (λ (l : List Waiting). length l) (sym same) ∙ is

whole : (n : ℕ) (old new : List Waiting) → length old ≡ n → length new ≡ length old → lent n old new ≡ new
whole n old new long same = take_at new (drop (length new) old) n (same ∙ long)

pub read_whole : (n : ℕ) (old new : List Waiting) (rank : ℕ) (next : Next Report) → length old ≡ n
    → HasRead old new rank next → HasRead old (lent n old new) rank next
read_whole n old new rank next long h =
    subst (λ (l : List Waiting). HasRead old l rank next)
    (sym (whole n old new long (ap (λ (l : List Waiting). length l) h.set ∙ length-set old rank h.stream))) h

pub fed_whole : (n : ℕ) (a c : CrewSeen) (old new : List Waiting) (rank : ℕ) → length old ≡ n
    → HasFed a c old new rank → HasFed a c old (lent n old new) rank
fed_whole n a c old new rank long h =
    subst (λ (l : List Waiting). HasFed a c old l rank)
    (sym (whole n old new long (ap (λ (l : List Waiting). length l) h.streams
    ∙ length-set old rank (fed (slice_index_or old rank first) h.bytes)))) h

pub gone_whole : (n : ℕ) (a c : CrewSeen) (old new : List Waiting) (rank : ℕ) → length old ≡ n
    → HasGone a c old new rank → HasGone a c old (lent n old new) rank
gone_whole n a c old new rank long h =
    subst (λ (l : List Waiting). HasGone a c old l rank)
    (sym (whole n old new long (ap (λ (l : List Waiting). length l) h.streams))) h

pub broken_whole : (n : ℕ) (a c : CrewSeen) (old new : List Waiting) → length old ≡ n → HasBroken a c old new
    → HasBroken a c old (lent n old new)
broken_whole n a c old new long h =
    subst (λ (l : List Waiting). HasBroken a c old l)
    (sym (whole n old new long (ap (λ (l : List Waiting). length l) h.streams))) h

pub lacked_whole : (n : ℕ) (a c : CrewSeen) (old new : List Waiting) (rank : ℕ) → length old ≡ n
    → HasLacked a c old new rank → HasLacked a c old (lent n old new) rank
lacked_whole n a c old new rank long h =
    subst (λ (l : List Waiting). HasLacked a c old l rank)
    (sym (whole n old new long (ap (λ (l : List Waiting). length l) h.streams
    ∙ length-set old rank (shut (slice_index_or old rank first))))) h

pub same_whole : (n : ℕ) (old new : List Waiting) → length old ≡ n → new ≡ old → lent n old new ≡ old
same_whole n old new long same =
    whole n old new long (ap (λ (l : List Waiting). length l) same) ∙ same

-- a buffer that was lent has the room that it had
pub room_whole : {X Z : Type 0} (v : Vec X Z) (slice new : List X) → slice ≡ v.items
    → length slice ≡ v.len
    → length new ≡ length slice → 0 < length v.items → 0 < length (with_items v new).items
room_whole {X} v slice new value long same room =
    subst (λ (l : List X). 0 < length l) (sym (with_items_is v new (same ∙ long)))
    (subst (λ (n : ℕ). 0 < n) (ap (λ (l : List X). length l) (sym value) ∙ sym same) room)
