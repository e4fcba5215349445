-- If recovery finds an image that has P, whatever a crash leaves, it continues to have one, if the
-- images that are new have P.
use Rattle.std.proofs.Common.{◌≡◌, inl, inr, List, ℕ, Option, None, Some, refl, sym, ◌∙◌, ap, subst}
use Rattle.ug_disk.specs.Histories.{History}
use Rattle.ug_disk.specs.Crashes.{Leaves, MayLeaveBoth}
use Rattle.ug_disk.specs.Memories.{begun}
use Rattle.ug_disk.proofs.Images.{only_bytes}
use Rattle.ug_disk.proofs.Moments.{starts, weakens}
use Rattle.ug_problem.specs.Instances.{Instance}
use Rattle.ug_rules.specs.declared.settings.Settings.{Settings}
use Rattle.ug_rules.specs.State.{BookState}
use Rattle.ug_image.specs.declared.image.Image.{Image}
use Rattle.ug_checkpoint.specs.declared.found.Found.{Found}
use Rattle.ug_checkpoint.specs.Recovery.{Recovered}
use Rattle.ug_checkpoint.specs.Savers.{CouldFind, Finds, IsLast, IsWritten, last_slot}
use Rattle.ug_checkpoint.proofs.Finding.{recovered_one}
use Rattle.ug_snapshot.specs.Moments.{IsImageOf}
use Rattle.ug_restart.specs.declared.outcome.Attempt.{Attempt}
use Rattle.ug_restart.specs.declared.outcome.Attempt.TheVariants.{Saved, Missed, Unsaved}
use Rattle.ug_restart.specs.Moments.{FindsIn, LastIs}
use Rattle.ug_restart.specs.Starts.{IsGoneOn, IsSafeStart}
use Rattle.ug_restart.proofs.Covering.{leaves_now}
use Rattle.ug_restart.proofs.Finds.{Stands, found_failed, found_saved}
use Rattle.ug_restart.proofs.Lasts.{last_still}
use Rattle.ug_laws.specs.Saves.{IsAttempt, next_found}
use Rattle.ug_laws.specs.Machines.{DiskWorld, HasRestarted, IsNotRestarted, store_of}

abbrev pub OfImage : Type 1
OfImage = Image → Type 0

-- each image of the book has P
abbrev pub OfBook : OfImage → BookState → Type 0
OfBook P book = (sequence : ℕ) (image : Image) → IsImageOf book sequence image → P image

-- whatever a crash leaves now, recovery finds an image that has P
abbrev pub CouldAll : OfImage → History → Type 0
CouldAll P told = (zero one : List ℕ) → MayLeaveBoth told.now zero one → FindsIn P zero one

-- and so does the last acknowledged one, where a run continues
pub record HasAll (P : OfImage) (w : DiskWorld) : Type 0 where
  pub could : CouldAll P w.told
  pub last : w.refused ≡ None → LastIs P w.saver (Some w.told)

-- ---- if more is known

finds_more : (P Q : OfImage) → ((image : Image) → P image → Q image) → (zero one : List ℕ)
    → FindsIn P zero one → FindsIn Q zero one
finds_more P Q more zero one t =
    record { found = t.found; recovered = t.recovered; is = more t.found.image t.is }

pub could_more : (P Q : OfImage) → ((image : Image) → P image → Q image) → (told : History)
    → CouldAll P told → CouldAll Q told
could_more P Q more told all zero one may = finds_more P Q more zero one (all zero one may)

pub all_more : (P Q : OfImage) → ((image : Image) → P image → Q image) → (w : DiskWorld)
    → HasAll P w → HasAll Q w
all_more P Q more w all = record {
  could = could_more P Q more w.told all.could;
  last = λ goes_on.
      let l = all.last goes_on in
      record { found = l.found; last = l.last; is = more l.found.image l.is };
}

-- what was found has P
pub could_has : (P : OfImage) (told : History) → CouldAll P told → (found : Found)
    → CouldFind (Some told) (Some found) → P found.image
could_has P told all found c =
    let finds = all c.zero c.one c.could in
    let e : finds.found ≡ found = cc (recovered_one c.zero c.one (Some finds.found) (Some found)
    finds.recovered c.recovered) in
    subst (λ (f : Found). P f.image) e finds.is

-- ---- if nothing was done

last_alike : (P : OfImage) (old new : DiskWorld) → new.told ≡ old.told
    → last_slot new.saver ≡ last_slot old.saver → LastIs P old.saver (Some old.told)
    → LastIs P new.saver (Some new.told)
last_alike P old new told slot l = record {
  found = l.found;
  last = subst (λ h. IsLast (last_slot new.saver) (Some h) (Some l.found)) (sym told)
      (subst (λ s. IsLast s (Some old.told) (Some l.found)) (sym slot) l.last);
  is = l.is;
}

pub all_alike : (P : OfImage) (old new : DiskWorld) → new.told ≡ old.told
    → last_slot new.saver ≡ last_slot old.saver → (new.refused ≡ None → old.refused ≡ None)
    → HasAll P old → HasAll P new
all_alike P old new told slot goes_on all = record {
  could = subst (CouldAll P) (sym told) all.could;
  last = λ e. last_alike P old new told slot (all.last (goes_on e));
}

pub each_alike : (P : OfImage) (old new : History) → new ≡ old → CouldAll P old
    → Leaves (FindsIn P) (Some old) (Some new)
each_alike P old new same all =
    subst (λ h. Leaves (FindsIn P) (Some old) (Some h)) (sym same)
    (starts (FindsIn P) (Some old) all)

-- ---- an image that is acknowledged

pub all_found : (P : OfImage) (w : DiskWorld) (found : Found) → Finds (Some w.told) found
    → last_slot w.saver ≡ Some found.slot → IsWritten found.slot found.image (Some w.told)
    → P found.image → HasAll P w
all_found P w found finds last written is = record {
  could = λ zero one may.
      record { found = found; recovered = finds zero one may; is = is };
  last = λ goes_on. record {
    found = found;
    last = subst (λ l. IsLast l (Some w.told) (Some found)) (sym last)
        (found.image, written, refl);
    is = is;
  };
}

-- ---- a save

-- at each moment of it, and the last acknowledged image then
save_stands : (P : OfImage) (attempt : Attempt) (old new : DiskWorld) (next : Image)
    → old.refused ≡ None → HasAll P old → P next
    → IsAttempt attempt (store_of old) next (store_of new)
    → Stands P (Some old.told) new.saver (Some new.told)
save_stands P Saved old new next goes_on all is t =
    found_saved P old.saver new.saver (Some old.told) (Some new.told) next is t.0.leaves
    (subst (λ l. IsLast l (Some new.told) (Some (next_found old.saver next))) (sym t.1.last)
    (next, t.1.written, refl)) (record { could = all.could; last = all.last goes_on })
save_stands P Missed old new next goes_on all is t =
    found_failed P old.saver new.saver (Some old.told) (Some new.told) next is t.0.leaves
    (last_still (last_slot old.saver) (last_slot new.saver) (Some old.told) (Some new.told) t.1.last t.0.alone)
    (record { could = all.could; last = all.last goes_on })
save_stands P Unsaved old new next goes_on all is t = (
  each_alike P old.told new.told t.1 all.could,
  last_alike P old new t.1 t.0.last (all.last goes_on),
)

pub saved_each : (P : OfImage) (attempt : Attempt) (old new : DiskWorld) (next : Image)
    → old.refused ≡ None → HasAll P old → P next
    → IsAttempt attempt (store_of old) next (store_of new)
    → Leaves (FindsIn P) (Some old.told) (Some new.told)
saved_each P attempt old new next goes_on all is t =
    (save_stands P attempt old new next goes_on all is t).0

pub saved_all : (P : OfImage) (attempt : Attempt) (old new : DiskWorld) (next : Image)
    → old.refused ≡ None → HasAll P old → P next
    → IsAttempt attempt (store_of old) next (store_of new) → HasAll P new
saved_all P attempt old new next goes_on all is t =
    let stands = save_stands P attempt old new next goes_on all is t in
    record {
      could = leaves_now (FindsIn P) old.told new.told stands.0;
      last = λ e. stands.1;
    }

-- ---- a crash and a restart

pub could_crashed : (P : OfImage) (told : History) (zero one : List ℕ) → CouldAll P told
    → MayLeaveBoth told.now zero one → CouldAll P (begun zero one)
could_crashed P told zero one all left a b may =
    subst (λ (z : List ℕ). FindsIn P z b) (sym (only_bytes zero a may.0))
    (subst (λ (o : List ℕ). FindsIn P zero o) (sym (only_bytes one b may.1)) (all zero one left))

-- what could be found after a crash could be found before it
pub find_crashed : (told : History) (zero one : List ℕ) (found : Option Found)
    → MayLeaveBoth told.now zero one → CouldFind (Some (begun zero one)) found
    → CouldFind (Some told) found
find_crashed told zero one found left c = record {
  zero = zero;
  one = one;
  could = left;
  recovered = subst (λ (z : List ℕ). Recovered z one found) (only_bytes zero c.zero c.could.0)
      (subst (λ (o : List ℕ). Recovered c.zero o found) (only_bytes one c.one c.could.1)
      c.recovered);
}

same_found : (P : OfImage) (told : History) (zero one : List ℕ) (found : Option Found)
    → CouldAll P told → CouldFind (Some told) found → Recovered zero one found
    → FindsIn P zero one
same_found P told zero one found all c recovered =
    let finds = all c.zero c.one c.could in
    let same : found ≡ Some finds.found =
    recovered_one c.zero c.one found (Some finds.found) c.recovered finds.recovered in
    record {
      found = finds.found;
      recovered = subst (λ f. Recovered zero one f) same recovered;
      is = finds.is;
    }

-- each book that resumes from what could be found has images that have P
abbrev pub OfGoneOn : OfImage → Instance → Settings → History → Type 0
OfGoneOn P p settings told = (book : BookState) → IsGoneOn p settings (Some told) book
    → OfBook P book

safe_start : (P : OfImage) (p : Instance) (settings : Settings) (told : History) → CouldAll P told
    → OfGoneOn P p settings told → (zero one : List ℕ)
    → IsSafeStart (Some told) (IsGoneOn p settings (Some told)) zero one → FindsIn P zero one
safe_start P p settings told all of zero one (inl could) = all zero one could
safe_start P p settings told all of zero one (inr (found, recovered, inl could)) =
    same_found P told zero one found all could recovered
safe_start P p settings told all of zero one
    (inr (found, recovered, inr (new, same, (book, gone_on, first)))) = record {
      found = new;
      recovered = subst (λ f. Recovered zero one f) same recovered;
      is = of book gone_on first.sequence new.image first.image;
    }

pub restart_each : (P : OfImage) (settings : Settings) (old new : DiskWorld)
    → CouldAll P old.told → OfGoneOn P old.world.book.problem settings old.told
    → HasRestarted settings old new → Leaves (FindsIn P) (Some old.told) (Some new.told)
restart_each P settings old new all of t =
    weakens (IsSafeStart (Some old.told)
    (IsGoneOn old.world.book.problem settings (Some old.told))) (FindsIn P) (Some old.told)
    (Some new.told)
    (safe_start P old.world.book.problem settings old.told all of) t.leaves

pub refused_all : (P : OfImage) (settings : Settings) (old new : DiskWorld)
    → Leaves (FindsIn P) (Some old.told) (Some new.told) → IsNotRestarted settings old new
    → HasAll P new
refused_all P settings old new leaves t =
    let is : new.refused ≡ Some t.fault = ap (λ (w : DiskWorld). w.refused) t.rest in
    record {
      could = leaves_now (FindsIn P) old.told new.told leaves;
      last = λ none. absurd (cc (sym none ∙ is));
    }
