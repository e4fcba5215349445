-- Orders, each read as it is spelled.
use Rattle.std.proofs.Common.{◌≡◌, ℕ, ℤ, pos, ◌+◌, ◌*◌, ◌^◌, ◌<◌, ◌≤◌, ◌≢◌, Bool, true, false, eqb, cond, List, [], ◌∷◌, ◌++◌, length, Option, None, IfSome, Result, Ok, Err, refl, sym, ◌∙◌, ap, subst, arith}
use Rattle.std.proofs.lemmas.Bool.{eqb-true, eqb-false}
use Rattle.std.proofs.lemmas.List.{append-nil, length-append}
use Rattle.ug_nodes.specs.declared.name.Ticket.{Ticket}
use Rattle.ug_nodes.specs.declared.change.Change.{Change}
use Rattle.ug_branch.specs.declared.params.Params.{Params}
use Rattle.ug_branch.specs.declared.params.Base.TheVariants.{Bound}
use Rattle.ug_branch.specs.Numbers.{first_params}
use Rattle.ug_fields.specs.Reading.{Reading, ◌>>=◌, small_at, number_at, amount_at, optional_at}
use Rattle.ug_fields.specs.Readers.{IsBytes, IsReader}
use Rattle.ug_fields.specs.Spelling.{count_field, number_field, optional_field}
use Rattle.ug_fields.proofs.Takes.{made, reworded, joined, bind_ok, ok_is}
use Rattle.ug_fields.proofs.Parts.{four}
use Rattle.ug_fields.proofs.Simple.{small_reader, number_reader, number_long}
use Rattle.ug_fields.proofs.Tests.{single}
use Rattle.ug_fields.proofs.Flagged.{optional_reader}
use Rattle.ug_frames.specs.declared.order.Order.{Order}
use Rattle.ug_frames.specs.declared.order.Order.TheVariants.{Setup, Work, Incumbent, CollectIn, CollectOut, Winner, Stop, End}
use Rattle.ug_frames.specs.Ranges.{longest, IsValue, AreChanges}
use Rattle.ug_frames.specs.Fronts.{IsLength}
use Rattle.ug_frames.specs.Spelling.{ticket_fields, params_field, race_field, changes_fields}
use Rattle.ug_frames.specs.OrderFrames.{tag_of, fields_of, IsCarried}
use Rattle.ug_frames.specs.Reading.{ticket_at, params_at, race_at, positive_at, changes_at, alone}
use Rattle.ug_frames.specs.OrderReading.{setup_at, work_at, incumbent_at, collect_at, ticket_order, ticket_order_at, tagged_at, order_in}
use Rattle.ug_frames.proofs.Parts.{IsToldTicket, given, fits, told, ticket_reader, IsAny, params_reader, race_reader, positive_reader, gap_reader}
use Rattle.ug_frames.proofs.Changed.{changes_reader}
use Rattle.ug_frames.proofs.Lengths.{length_is, length_few}
use Rattle.ug_frames.proofs.Wholes.{IsWhole, alone_reader, chosen}

-- ---- what an order has, or something where it has none

no_ticket : Ticket
no_ticket = record { run = 1; number = 1 }

abbrev ticket_in : Order → Ticket
ticket_in (Work ticket params race cutoff changes) = ticket
ticket_in (CollectIn ticket count) = ticket
ticket_in (CollectOut ticket) = ticket
ticket_in (Winner ticket) = ticket
ticket_in (Stop ticket) = ticket
ticket_in order = no_ticket

abbrev params_in : Order → Params
params_in (Work ticket params race cutoff changes) = params
params_in order = first_params Bound

abbrev race_in : Order → Bool
race_in (Work ticket params race cutoff changes) = race
race_in order = false

abbrev cutoff_in : Order → Option ℤ
cutoff_in (Work ticket params race cutoff changes) = cutoff
cutoff_in order = None

abbrev changes_in : Order → List Change
changes_in (Work ticket params race cutoff changes) = changes
changes_in order = []

abbrev value_in : Order → ℤ
value_in (Incumbent cutoff) = cutoff
value_in order = pos 0

abbrev count_in : Order → ℕ
count_in (CollectIn ticket count) = count
count_in order = 0

-- an order with this tag that a frame can carry
abbrev IsTagged : ℕ → Order → Type 0
IsTagged tag order = (tag_of order ≡ tag) × IsCarried order

-- ---- a Work

abbrev IsWork : Order → Type 0
IsWork z = (tag_of z ≡ 2) × (IsToldTicket (ticket_in z) × (IsAny (params_in z) × (IsAny (race_in z)
    × (IfSome (cutoff_in z) IsValue × (AreChanges (changes_in z) × Unit {0})))))

abbrev work_text : Order → List ℕ
work_text z = ticket_fields (ticket_in z) ++ (params_field (params_in z)
    ++ (race_field (race_in z) ++ (optional_field (cutoff_in z)
    ++ (changes_fields (changes_in z) ++ []))))

work_spelled : (z : Order) → IsWork z → work_text z ≡ fields_of z
unfolding fields_of
work_spelled (Work ticket params race cutoff changes) is =
    ap (λ t. ticket_fields ticket ++ (params_field params ++ (race_field race
    ++ (optional_field cutoff ++ t)))) (append-nil (changes_fields changes))
    ∙ sym (four (ticket_fields ticket) (params_field params) (race_field race)
    (optional_field cutoff) (changes_fields changes))
work_spelled z is = absurd (omega (arith, is.0))

work_to : (z : Order) → IsWork z → IsTagged 2 z
work_to (Work ticket params race cutoff changes) is = (
  refl,
  record {
    can = record { given = given ticket is.1.0; fields = (is.1.1.1.1.0, is.1.1.1.1.1.0) };
    fits = record { ticket = fits ticket is.1.0; fields = tt };
  },
)
work_to z is = absurd (omega (arith, is.0))

work_from : (z : Order) → IsTagged 2 z → IsWork z
work_from (Work ticket params race cutoff changes) is = (
  refl,
  (
    told ticket is.1.can.given is.1.fits.ticket,
    (tt, (tt, (is.1.can.fields.0, (is.1.can.fields.1, tt)))),
  ),
)
work_from z is = absurd (omega (arith, is.0))

module _ (t : Ticket) (p : Params) (r : Bool) (c : Option ℤ) (cs : List Change) where
  abbrev HasParts : Order → Type 0
  HasParts z = (((((tag_of z ≡ 2) × (ticket_in z ≡ t)) × (params_in z ≡ p)) × (race_in z ≡ r))
      × (cutoff_in z ≡ c)) × (changes_in z ≡ cs)

  only_work : (z : Order) → HasParts z × Unit {0} → z ≡ Work t p r c cs
  only_work (Work ticket params race cutoff changes) is =
      λ i. Work (is.0.0.0.0.0.1 i) (is.0.0.0.0.1 i) (is.0.0.0.1 i) (is.0.0.1 i) (is.0.1 i)
  only_work z is = absurd (omega (arith, is.0.0.0.0.0.0))

work_reader : IsReader (IsTagged 2) fields_of work_at
unfolding work_at
work_reader =
    reworded IsWork work_text (IsTagged 2) fields_of _ work_spelled work_to work_from
    (joined ticket_in IsToldTicket ticket_fields ticket_at
    (λ z. tag_of z ≡ 2)
    (λ z. IsAny (params_in z) × (IsAny (race_in z) × (IfSome (cutoff_in z) IsValue
    × (AreChanges (changes_in z) × Unit {0}))))
    (λ z. params_field (params_in z) ++ (race_field (race_in z) ++ (optional_field (cutoff_in z)
    ++ (changes_fields (changes_in z) ++ [])))) _ ticket_reader
    (λ t good. joined params_in IsAny params_field params_at
    (λ z. (tag_of z ≡ 2) × (ticket_in z ≡ t))
    (λ z. IsAny (race_in z) × (IfSome (cutoff_in z) IsValue × (AreChanges (changes_in z)
    × Unit {0})))
    (λ z. race_field (race_in z) ++ (optional_field (cutoff_in z)
    ++ (changes_fields (changes_in z) ++ []))) _ params_reader
    (λ p any. joined race_in IsAny race_field race_at
    (λ z. ((tag_of z ≡ 2) × (ticket_in z ≡ t)) × (params_in z ≡ p))
    (λ z. IfSome (cutoff_in z) IsValue × (AreChanges (changes_in z) × Unit {0}))
    (λ z. optional_field (cutoff_in z) ++ (changes_fields (changes_in z) ++ [])) _ race_reader
    (λ r any. joined cutoff_in (λ c. IfSome c IsValue) optional_field
    (optional_at (2 * 10 ^ 37))
    (λ z. (((tag_of z ≡ 2) × (ticket_in z ≡ t)) × (params_in z ≡ p)) × (race_in z ≡ r))
    (λ z. AreChanges (changes_in z) × Unit {0})
    (λ z. changes_fields (changes_in z) ++ []) _ (optional_reader (2 * 10 ^ 37) (omega arith))
    (λ c small. joined changes_in AreChanges changes_fields changes_at
    (λ z. ((((tag_of z ≡ 2) × (ticket_in z ≡ t)) × (params_in z ≡ p)) × (race_in z ≡ r))
    × (cutoff_in z ≡ c))
    (λ z. Unit {0}) (λ z. []) _ changes_reader
    (λ cs are. made (λ z. HasParts t p r c cs z × Unit {0}) (Work t p r c cs)
    ((((((refl, refl), refl), refl), refl), refl), tt) (only_work t p r c cs)))))))

-- ---- an Incumbent

incumbent_to : (z : Order) → (tag_of z ≡ 3) × (IsValue (value_in z) × Unit {0}) → IsTagged 3 z
incumbent_to (Incumbent cutoff) is = (
  refl,
  record {
    can = record { given = tt; fields = is.1.0 };
    fits = record { ticket = tt; fields = tt };
  },
)
incumbent_to z is = absurd (omega (arith, is.0))

incumbent_from : (z : Order) → IsTagged 3 z → (tag_of z ≡ 3) × (IsValue (value_in z) × Unit {0})
incumbent_from (Incumbent cutoff) is = (refl, (is.1.can.fields, tt))
incumbent_from z is = absurd (omega (arith, is.0))

incumbent_spelled : (z : Order) → (tag_of z ≡ 3) × (IsValue (value_in z) × Unit {0})
    → number_field (value_in z) ++ [] ≡ fields_of z
unfolding fields_of
incumbent_spelled (Incumbent cutoff) is = append-nil (number_field cutoff)
incumbent_spelled z is = absurd (omega (arith, is.0))

only_incumbent : (c : ℤ) (z : Order) → ((tag_of z ≡ 3) × (value_in z ≡ c)) × Unit {0}
    → z ≡ Incumbent c
only_incumbent c (Incumbent cutoff) is = λ i. Incumbent (is.0.1 i)
only_incumbent c z is = absurd (omega (arith, is.0.0))

incumbent_reader : IsReader (IsTagged 3) fields_of incumbent_at
unfolding incumbent_at
incumbent_reader =
    reworded (λ z. (tag_of z ≡ 3) × (IsValue (value_in z) × Unit {0}))
    (λ z. number_field (value_in z) ++ []) (IsTagged 3) fields_of _
    incumbent_spelled incumbent_to incumbent_from
    (joined value_in IsValue number_field (number_at (2 * 10 ^ 37)) (λ z. tag_of z ≡ 3)
    (λ z. Unit {0}) (λ z. []) _ (number_reader (2 * 10 ^ 37) (omega arith))
    (λ c small. made (λ z. ((tag_of z ≡ 3) × (value_in z ≡ c)) × Unit {0}) (Incumbent c)
    ((refl, refl), tt) (only_incumbent c)))

-- ---- a CollectIn

abbrev IsCollect : Order → Type 0
IsCollect z = (tag_of z ≡ 4) × (IsToldTicket (ticket_in z)
    × (((1 ≤ count_in z) × (count_in z < 2 ^ 32)) × Unit {0}))

collect_to : (z : Order) → IsCollect z → IsTagged 4 z
collect_to (CollectIn ticket count) is = (
  refl,
  record {
    can = record { given = given ticket is.1.0; fields = is.1.1.0.0 };
    fits = record { ticket = fits ticket is.1.0; fields = is.1.1.0.1 };
  },
)
collect_to z is = absurd (omega (arith, is.0))

collect_from : (z : Order) → IsTagged 4 z → IsCollect z
collect_from (CollectIn ticket count) is = (
  refl,
  (told ticket is.1.can.given is.1.fits.ticket, ((is.1.can.fields, is.1.fits.fields), tt)),
)
collect_from z is = absurd (omega (arith, is.0))

collect_spelled : (z : Order) → IsCollect z
    → ticket_fields (ticket_in z) ++ (count_field (count_in z) ++ []) ≡ fields_of z
unfolding fields_of
collect_spelled (CollectIn ticket count) is =
    ap (λ t. ticket_fields ticket ++ t) (append-nil (count_field count))
collect_spelled z is = absurd (omega (arith, is.0))

only_collect : (t : Ticket) (n : ℕ) (z : Order)
    → (((tag_of z ≡ 4) × (ticket_in z ≡ t)) × (count_in z ≡ n)) × Unit {0} → z ≡ CollectIn t n
only_collect t n (CollectIn ticket count) is = λ i. CollectIn (is.0.0.1 i) (is.0.1 i)
only_collect t n z is = absurd (omega (arith, is.0.0.0))

collect_reader : IsReader (IsTagged 4) fields_of collect_at
unfolding collect_at
collect_reader =
    reworded IsCollect (λ z. ticket_fields (ticket_in z) ++ (count_field (count_in z) ++ []))
    (IsTagged 4) fields_of _ collect_spelled collect_to collect_from
    (joined ticket_in IsToldTicket ticket_fields ticket_at (λ z. tag_of z ≡ 4)
    (λ z. ((1 ≤ count_in z) × (count_in z < 2 ^ 32)) × Unit {0})
    (λ z. count_field (count_in z) ++ []) _ ticket_reader
    (λ t good. joined count_in (λ n. (1 ≤ n) × (n < 2 ^ 32)) count_field positive_at
    (λ z. (tag_of z ≡ 4) × (ticket_in z ≡ t)) (λ z. Unit {0}) (λ z. []) _ positive_reader
    (λ n some. made (λ z. (((tag_of z ≡ 4) × (ticket_in z ≡ t)) × (count_in z ≡ n)) × Unit {0})
    (CollectIn t n) (((refl, refl), refl), tt) (only_collect t n))))

-- ---- an order that has its ticket alone

abbrev IsPlain : ℕ → Order → Type 0
IsPlain tag z = (tag_of z ≡ tag) × (IsToldTicket (ticket_in z) × Unit {0})

tag_by : (tag : ℕ) (t : Ticket) (a b : Bool) → eqb tag 5 ≡ a → eqb tag 6 ≡ b → 5 ≤ tag
    → tag ≤ 7 → tag_of (cond a (CollectOut t) (cond b (Winner t) (Stop t))) ≡ tag
tag_by tag t true b p q low high = sym (eqb-true _ _ p)
tag_by tag t false true p q low high = sym (eqb-true _ _ q)
tag_by tag t false false p q low high =
    let five : tag ≢ 5 = eqb-false _ _ p in
    let six : tag ≢ 6 = eqb-false _ _ q in
    omega (arith, low, high, five, six)

module _ (tag : ℕ) (low : 5 ≤ tag) (high : tag ≤ 7) where
  plain_to : (z : Order) → IsPlain tag z → IsTagged tag z
  plain_to (CollectOut ticket) is = (
    is.0,
    record {
      can = record { given = given ticket is.1.0; fields = tt };
      fits = record { ticket = fits ticket is.1.0; fields = tt };
    },
  )
  plain_to (Winner ticket) is = (
    is.0,
    record {
      can = record { given = given ticket is.1.0; fields = tt };
      fits = record { ticket = fits ticket is.1.0; fields = tt };
    },
  )
  plain_to (Stop ticket) is = (
    is.0,
    record {
      can = record { given = given ticket is.1.0; fields = tt };
      fits = record { ticket = fits ticket is.1.0; fields = tt };
    },
  )
  plain_to z is = absurd (omega (arith, is.0, low, high))

  plain_from : (z : Order) → IsTagged tag z → IsPlain tag z
  plain_from (CollectOut ticket) is =
      (is.0, (told ticket is.1.can.given is.1.fits.ticket, tt))
  plain_from (Winner ticket) is = (is.0, (told ticket is.1.can.given is.1.fits.ticket, tt))
  plain_from (Stop ticket) is = (is.0, (told ticket is.1.can.given is.1.fits.ticket, tt))
  plain_from z is = absurd (omega (arith, is.0, low, high))

  plain_spelled : (z : Order) → IsPlain tag z → ticket_fields (ticket_in z) ++ [] ≡ fields_of z
  unfolding fields_of
  plain_spelled (CollectOut ticket) is = append-nil (ticket_fields ticket)
  plain_spelled (Winner ticket) is = append-nil (ticket_fields ticket)
  plain_spelled (Stop ticket) is = append-nil (ticket_fields ticket)
  plain_spelled z is = absurd (omega (arith, is.0, low, high))

  own : (z : Order) → tag_of z ≡ tag → z ≡ ticket_order (tag_of z) (ticket_in z)
  own (CollectOut ticket) is = refl
  own (Winner ticket) is = refl
  own (Stop ticket) is = refl
  own z is = absurd (omega (arith, is, low, high))

  ticket_by : (t : Ticket) (a b : Bool)
      → ticket_in (cond a (CollectOut t) (cond b (Winner t) (Stop t))) ≡ t
  ticket_by t true b = refl
  ticket_by t false true = refl
  ticket_by t false false = refl

  plain_reader : IsReader (IsTagged tag) fields_of (ticket_order_at tag)
  unfolding ticket_order_at
  plain_reader =
      reworded (IsPlain tag) (λ z. ticket_fields (ticket_in z) ++ []) (IsTagged tag) fields_of _
      plain_spelled plain_to plain_from
      (joined ticket_in IsToldTicket ticket_fields ticket_at (λ z. tag_of z ≡ tag)
      (λ z. Unit {0}) (λ z. []) _ ticket_reader
      (λ t good. made (λ z. ((tag_of z ≡ tag) × (ticket_in z ≡ t)) × Unit {0})
      (ticket_order tag t) (
        (
          tag_by tag t (eqb tag 5) (eqb tag 6) refl refl low high,
          ticket_by t (eqb tag 5) (eqb tag 6),
        ),
        tt,
      )
      (λ z is. own z is.0.0 ∙ (λ i. ticket_order (is.0.0 i) (is.0.1 i)))))

-- ---- End

end_to : (z : Order) → (tag_of z ≡ 8) × Unit {0} → IsTagged 8 z
end_to End is = (
  refl,
  record {
    can = record { given = tt; fields = tt };
    fits = record { ticket = tt; fields = tt };
  },
)
end_to z is = absurd (omega (arith, is.0))

end_spelled : (z : Order) → (tag_of z ≡ 8) × Unit {0} → [] ≡ fields_of z
unfolding fields_of
end_spelled End is = refl
end_spelled z is = absurd (omega (arith, is.0))

only_end : (z : Order) → (tag_of z ≡ 8) × Unit {0} → z ≡ End
only_end End is = refl
only_end z is = absurd (omega (arith, is.0))

end_reader : IsReader (IsTagged 8) fields_of (λ bytes. Ok (End, bytes))
end_reader =
    reworded (λ z. (tag_of z ≡ 8) × Unit {0}) (λ z. []) (IsTagged 8) fields_of _
    end_spelled end_to (λ z is. (is.0, tt))
    (made (λ z. (tag_of z ≡ 8) × Unit {0}) End (refl, tt) only_end)

-- ---- a Setup, whose record is all that is left

abbrev after_gap : ℤ × List ℕ → Reading Order
after_gap gap = Ok (Setup gap.0 gap.1, [])

-- the most bytes behind a tag
abbrev most : ℕ
most = 67108859

setup_taken : (bytes : List ℕ) (z : Order) → IsBytes bytes → length bytes ≤ most
    → alone (setup_at bytes) ≡ Ok z → (bytes ≡ fields_of z) × IsTagged 1 z
unfolding setup_at fields_of alone
setup_taken bytes z h few e =
    let b = bind_ok (setup_at bytes) (λ x. cond (eqb (length x.1) 0) (Ok x.0)
    (Err (length x.1))) z e in
    let g = bind_ok (amount_at (4 * 10 ^ 37) bytes) after_gap b.0 b.1 in
    let t = gap_reader.taken bytes g.0.0 g.0.1 h g.1 in
    let set : (Setup g.0.0 g.0.1, []) ≡ b.0 = ok_is (Setup g.0.0 g.0.1, []) b.0 g.2 in
    let none : [] ≡ b.0.1 = λ i. (set i).1 in
    let is : b.0.0 ≡ z =
    (single (eqb (length b.0.1) 0) (length b.0.1) b.0.0 z b.2).1 in
    let same : Setup g.0.0 g.0.1 ≡ z = (λ i. (set i).0) ∙ is in
    let room : 1 + 16 + length g.0.1 ≤ 67108860 = omega (
      arith,
      few,
      ap length t.0.parts,
      length-append (number_field g.0.0) g.0.1,
      number_long g.0.0,
    ) in
    subst (λ (o : Order). (bytes ≡ fields_of o) × IsTagged 1 o) same (
      t.0.parts,
      (
        refl,
        record {
          can = record { given = tt; fields = (t.1, room) };
          fits = record { ticket = tt; fields = t.0.rest_fits };
        },
      ),
    )

setup_again : (z : Order) → IsTagged 1 z → alone (setup_at (fields_of z)) ≡ Ok z
unfolding setup_at fields_of alone
setup_again (Setup gap bytes) is =
    ap (λ (r : Reading ℤ). alone (r >>= after_gap))
    (gap_reader.again gap bytes is.1.can.fields.0)
setup_again z is = absurd (omega (arith, is.0))

setup_whole : IsWhole most (IsTagged 1) fields_of (λ bytes. alone (setup_at bytes))
setup_whole = record {
  taken = setup_taken;
  again = setup_again;
}

-- ---- an order by its tag

abbrev IsOfTag : ℕ → (List ℕ → Reading Order) → Type 0
IsOfTag tag read = IsWhole most (IsTagged tag) fields_of (λ bytes. alone (read bytes))

by_tag : (tag n : ℕ) (read : List ℕ → Reading Order) → eqb tag n ≡ true → IsOfTag n read
    → IsOfTag tag read
by_tag tag n read e whole =
    subst (λ (k : ℕ). IsOfTag k read) (sym (eqb-true _ _ e)) whole

by_reader : (tag n : ℕ) (read : List ℕ → Reading Order) → eqb tag n ≡ true
    → IsReader (IsTagged n) fields_of read → IsOfTag tag read
by_reader tag n read e reader =
    by_tag tag n read e (alone_reader (IsTagged n) fields_of read most reader)

tagged_whole : (tag : ℕ) → 1 ≤ tag → tag ≤ 8 → IsOfTag tag (tagged_at tag)
unfolding tagged_at
tagged_whole tag low high =
    chosen most (IsTagged tag) fields_of setup_at _ (eqb tag 1)
    (λ e. by_tag tag 1 setup_at e setup_whole)
    (λ not_1. chosen most (IsTagged tag) fields_of work_at _ (eqb tag 2)
    (λ e. by_reader tag 2 work_at e work_reader)
    (λ not_2. chosen most (IsTagged tag) fields_of incumbent_at _ (eqb tag 3)
    (λ e. by_reader tag 3 incumbent_at e incumbent_reader)
    (λ not_3. chosen most (IsTagged tag) fields_of collect_at _ (eqb tag 4)
    (λ e. by_reader tag 4 collect_at e collect_reader)
    (λ not_4. chosen most (IsTagged tag) fields_of (λ bytes. Ok (End, bytes)) _ (eqb tag 8)
    (λ e. by_reader tag 8 (λ bytes. Ok (End, bytes)) e end_reader)
    (λ not_8.
    let one : tag ≢ 1 = eqb-false _ _ not_1 in
    let two : tag ≢ 2 = eqb-false _ _ not_2 in
    let three : tag ≢ 3 = eqb-false _ _ not_3 in
    let for : tag ≢ 4 = eqb-false _ _ not_4 in
    let eight : tag ≢ 8 = eqb-false _ _ not_8 in
    alone_reader (IsTagged tag) fields_of (ticket_order_at tag) most
    (plain_reader tag (omega (arith, low, one, two, three, for)) (omega (arith, high, eight))))))))

-- ---- all orders

abbrev pub body_of : Order → List ℕ
body_of z = tag_of z ∷ fields_of z

abbrev behind_tag : ℕ × List ℕ → Result Order ℕ
behind_tag tag = alone (tagged_at tag.0 tag.1)

pub tag_small : (z : Order) → (1 ≤ tag_of z) × (tag_of z ≤ 8)
tag_small (Setup gap bytes) = (omega arith, omega arith)
tag_small (Work ticket params race cutoff changes) = (omega arith, omega arith)
tag_small (Incumbent cutoff) = (omega arith, omega arith)
tag_small (CollectIn ticket count) = (omega arith, omega arith)
tag_small (CollectOut ticket) = (omega arith, omega arith)
tag_small (Winner ticket) = (omega arith, omega arith)
tag_small (Stop ticket) = (omega arith, omega arith)
tag_small End = (omega arith, omega arith)

pub order_whole : IsWhole longest IsCarried body_of order_in
unfolding order_in
order_whole = record {
  taken = λ bytes z h few e.
      let b = bind_ok (small_at 1 8 bytes) behind_tag z e in
      let t = (small_reader 1 8).taken bytes b.0.0 b.0.1 h b.1 in
      let less : length b.0.1 ≤ most = omega (arith, few, ap length t.0.parts) in
      let u = (tagged_whole b.0.0 t.1.0 t.1.1).taken b.0.1 z t.0.rest_fits less b.2 in
      (t.0.parts ∙ (λ i. sym u.1.0 i ∷ u.0 i), u.1.1);
  again = λ z is.
      let small = tag_small z in
      ap (λ r. r >>= behind_tag) ((small_reader 1 8).again (tag_of z) (fields_of z) small)
      ∙ (tagged_whole (tag_of z) small.0 small.1).again z (refl, is);
}

-- an order's frame has a length in range
pub order_small : (z : Order) → IsCarried z → IsLength (length (body_of z))
order_small z is = record { some = omega arith; few = few_bytes z is }
  where
    few_bytes : (o : Order) → IsCarried o → length (body_of o) ≤ longest
    few_bytes o is = omega (arith, length_is o, length_few o is.can)
