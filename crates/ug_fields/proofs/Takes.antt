-- Readers that take from the front what a spelling put there, and read all that it puts there.
use Rattle.std.proofs.Common.{◌≡◌, ℕ, List, [], ◌++◌, length, Result, Ok, Err, refl, sym, ◌∙◌, ap, subst, append_assoc, arith}
use Rattle.std.proofs.lemmas.List.{length-append}
use Rattle.ug_fields.specs.Reading.{Reading, ◌>>=◌}
use Rattle.ug_fields.specs.Readers.{IsBytes, Takes, IsReader}

abbrev done : {A : Type 0} → A → Result A ℕ
done x = Ok x

pub ok_is : {A : Type 0} → (x y : A) → done x ≡ done y → x ≡ y
ok_is x y e = cc

-- the value of a step that did not fail
pub bind_ok : {A B : Type 0} → (r : Result A ℕ) (f : A → Result B ℕ) (y : B) → (r >>= f) ≡ Ok y
    → (x : A) × (r ≡ Ok x) × (f x ≡ Ok y)
bind_ok (Ok x) f y e = (x, refl, e)
bind_ok (Err left) f y e = absurd cc

-- what comes after two steps comes after the second
pub bind_again : {A B C : Type 0} → (r : Result A ℕ) (f : A → Result B ℕ) (g : B → Result C ℕ)
    → (r >>= f >>= g) ≡ (r >>= λ x. f x >>= g)
bind_again (Ok x) f g = refl
bind_again (Err left) f g = refl

pub bind_same : {A B : Type 0} → (r : Result A ℕ) (f g : A → Result B ℕ)
    → ((x : A) → f x ≡ g x) → (r >>= f) ≡ (r >>= g)
bind_same (Ok x) f g same = same x
bind_same (Err left) f g same = refl

-- what failed: the step, or what came after it
pub data Failed {A B : Type 0} (r : Result A ℕ) (f : A → Result B ℕ) (left : ℕ) : Type 0 where
  first : r ≡ Err left → Failed r f left
  then_ : (x : A) → r ≡ Ok x → f x ≡ Err left → Failed r f left

pub bind_err : {A B : Type 0} → (r : Result A ℕ) (f : A → Result B ℕ) (left : ℕ)
    → (r >>= f) ≡ Err left → Failed r f left
bind_err (Ok x) f left e = then_ x refl e
bind_err (Err l) f left e = first cc

pub Takes-then : (a x b y c : List ℕ) → Takes a x b → Takes b y c → Takes a (x ++ y) c
Takes-then a x b y c p q = record {
  parts = p.parts ∙ ap (λ (t : List ℕ). x ++ t) q.parts ∙ sym (append_assoc x y c);
  rest_fits = q.rest_fits;
}

-- the same under another spelling and another word for good
pub reworded : {X : Type 0} → (Good : X → Type 0) (field : X → List ℕ) (Fine : X → Type 0)
    (spelled : X → List ℕ) (read : List ℕ → Reading X)
    → ((x : X) → Good x → field x ≡ spelled x) → ((x : X) → Good x → Fine x)
    → ((x : X) → Fine x → Good x)
    → IsReader Good field read → IsReader Fine spelled read
reworded Good field Fine spelled read same to from reader = record {
  taken = λ bytes x rest h e.
      let t = reader.taken bytes x rest h e in
      (subst (λ text. Takes bytes text rest) (same x t.1) t.0, to x t.1);
  again = λ x rest fine. ap (λ text. read (text ++ rest)) (sym (same x (from x fine)))
      ∙ reader.again x rest (from x fine);
  within = reader.within;
}

-- a value that was made of what was read
pub made : {Z : Type 0} → (Good : Z → Type 0) (z : Z) → Good z → ((x : Z) → Good x → x ≡ z)
    → IsReader Good (λ (x : Z). []) (λ rest. Ok (z, rest))
made Good z good only = record {
  taken = λ bytes x rest h e.
      let same : (z, bytes) ≡ (x, rest) = ok_is (z, bytes) (x, rest) e in
      let value : z ≡ x = λ i. (same i).0 in
      let behind : bytes ≡ rest = λ i. (same i).1 in
      (record { parts = behind; rest_fits = subst IsBytes behind h }, subst Good value good);
  again = λ x rest is. ap (λ y. Ok (y, rest)) (sym (only x is));
  within = λ bytes left h e. absurd (cc e);
}

-- a field, and then those behind it, which may go by its value
module _ {X Z : Type 0} (part : Z → X) (Fine : X → Type 0) (field : X → List ℕ)
    (read : List ℕ → Reading X) (Before Good : Z → Type 0) (fields : Z → List ℕ)
    (next : X × List ℕ → Reading Z) where
  pub joined : IsReader Fine field read
      → ((x : X) → Fine x → IsReader (λ z. (Before z × (part z ≡ x)) × Good z) fields
      (λ rest. next (x, rest)))
      → IsReader (λ z. Before z × (Fine (part z) × Good z)) (λ z. field (part z) ++ fields z)
      (λ bytes. read bytes >>= next)
  joined one others = record {
    taken = λ bytes z rest h e.
        let b = bind_ok (read bytes) next (z, rest) e in
        let t = one.taken bytes b.0.0 b.0.1 h b.1 in
        let u = (others b.0.0 t.1).taken b.0.1 z rest t.0.rest_fits b.2 in
        let is : part z ≡ b.0.0 = u.1.0.1 in (
          subst (λ x. Takes bytes (field x ++ fields z) rest) (sym is)
              (Takes-then bytes (field b.0.0) b.0.1 (fields z) rest t.0 u.0),
          (u.1.0.0, (subst Fine (sym is) t.1, u.1.1)),
        );
    again = λ z rest good.
        ap (λ text. read text >>= next) (append_assoc (field (part z)) (fields z) rest)
        ∙ ap (λ r. r >>= next) (one.again (part z) (fields z ++ rest) good.1.0)
        ∙ (others (part z) good.1.0).again z rest ((good.0, refl), good.1.1);
    within = λ bytes left h e.
        elim (bind_err (read bytes) next left e) [
          | first f ↦ one.within bytes left h f
          | then_ x r f ↦
              let t = one.taken bytes x.0 x.1 h r in
              let less = (others x.0 t.1).within x.1 left t.0.rest_fits f in
              omega (arith, less, ap length t.0.parts, length-append (field x.0) x.1)
        ];
  }
