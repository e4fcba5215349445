-- What one error says of the disk's faults, as another does.
use Rattle.std.proofs.Common.{◌≡◌, ℕ, List, sym, subst}
use Rattle.ug_disk.specs.Causes.{read_cause}
use Rattle.ug_disk.specs.declared.reading.ReadError.{ReadError}
use Rattle.ug_disk.specs.declared.reading.ReadError.TheVariants as read
use Rattle.ug_checkpoint.specs.Causes.{load_cause}
use Rattle.ug_checkpoint.specs.Errors.{load_error_of}
use Rattle.ug_checkpoint.specs.Recovery.{IsCause}
use Rattle.ug_checkpoint.specs.declared.error.LoadError.{LoadError}
use Rattle.ug_checkpoint.specs.declared.error.LoadError.TheVariants as load

told_so : (e : ReadError) (old new : ℕ) → read_cause e old new → load_cause (load_error_of e) old new
told_so read.Memory old new t = t
told_so read.Fault old new t = t

-- the slots were not read
pub unread : (e : ReadError) (told : LoadError) (old new : ℕ) → told ≡ load_error_of e
    → read_cause e old new → load_cause told old new
unread e told old new is t =
    subst (λ (l : LoadError). load_cause l old new) (sym is) (told_so e old new t)

-- they were, and nothing is found in them
pub unfound : (zero one : List ℕ) (e : LoadError) (old new : ℕ) → IsCause zero one e → new ≡ old
    → load_cause e old new
unfound zero one load.Memory old new t same = same
unfound zero one load.Fault old new t same = absurd t
unfound zero one (load.BadImage slot at) old new t same = same
