-- A run that resumes from what was loaded.
use Rattle.std.proofs.Common.{◌≡◌, ℕ, suc, zero, ℤ, ◌+ℤ◌, ◌<ℤ◌, ◌≤ℤ◌, List, [], ◌∷◌, map, Option, None, Some, IfSome, IfErr, Result, Ok, Err, refl, sym, ◌∙◌, ap, subst, arith}
use Rattle.std.proofs.lemmas.Int.{ints}
use Rattle.std.specs.Prelude.{All}
use Rattle.ug_disk.specs.Histories.{History}
use Rattle.ug_rows.specs.declared.area.Interval.{Interval}
use Rattle.ug_rows.specs.Rows.{value_of}
use Rattle.ug_problem.specs.Instances.{Instance, root_of}
use Rattle.ug_problem.specs.Incumbents.{one_kept}
use Rattle.ug_problem.proofs.Incumbents.{covered_under_more}
use Rattle.ug_problem.specs.Better.{Covered}
use Rattle.ug_problem.specs.Feasible.{Feasible}
use Rattle.ug_nodes.specs.declared.change.Change.{Change}
use Rattle.ug_nodes.specs.Changes.{AreChangesOf, area_by}
use Rattle.ug_rules.specs.declared.settings.Settings.{Settings}
use Rattle.ug_rules.specs.State.{BookState}
use Rattle.ug_book.specs.Starts.{started}
use Rattle.ug_image.specs.declared.image.SavedNode.{SavedNode}
use Rattle.ug_image.specs.Images.{AreSavedNodes, IsImage}
use Rattle.ug_checkpoint.specs.declared.found.Found.{Found}
use Rattle.ug_checkpoint.specs.Recovery.{HasFound}
use Rattle.ug_snapshot.specs.Moments.{IsCovered, boxes_in}
use Rattle.ug_restart.specs.Openings.{CoversWhatIsFound, IsNotSaved}
use Rattle.ug_restart.specs.Starts.{IsGoneOn, IsNotGoneOn, boxes_saved, gone_on, next_run}
use Rattle.ug_rules.specs.Books.{AreSettings}
use Rattle.ug_checkpoint.specs.declared.saver.Saver.{Saver}
use Rattle.ug_restart.specs.Books.{HasNoNext, IsNextStart, IsSaverOf, MayGoOn}
use Rattle.ug_restart.specs.declared.fault.StartFault.{StartFault}
use Rattle.ug_restart.specs.declared.fault.StartFault.TheVariants.{Memory, DiskFault, BadImage, NoCheckpoint, OtherProblem, SmallerGap, Spent}
use Rattle.ug_restart.proofs.Composes.{chosen_has, loaded_could}

-- what was loaded is an image
pub image_of_loaded : (old mid : Option History) (found : Found) → HasFound old mid (Some found)
    → IsImage found.image
image_of_loaded old mid found has =
    let there = chosen_has has.zero has.one has.is.in_zero has.is.in_one found has.is.has_zero
    has.is.has_one has.is.greater in
    there.spells.is

-- the book that is made of what was kept is the one that continues
pub made_on : (p : Instance) (settings : Settings) (found : Found) (run : ℕ)
    (best : Option (List ℤ)) (boxes : List (List Change)) (book : BookState)
    → run ≡ next_run (Some found) → best ≡ found.image.best
    → boxes ≡ boxes_saved found.image.nodes → book ≡ started p run best boxes settings
    → book ≡ gone_on p settings found
made_on p settings found run best boxes book ran same kept made =
    subst (λ r. book ≡ started p r found.image.best (boxes_saved found.image.nodes) settings) ran
    (subst (λ b. book ≡ started p run b (boxes_saved found.image.nodes) settings) same
    (subst (λ b. book ≡ started p run best b settings) kept made))

-- the book that resumes from what was loaded
pub going_on : (p : Instance) (settings : Settings) (old mid : Option History) (found : Found)
    (book : BookState) → HasFound old mid (Some found) → MayGoOn p settings found
    → book ≡ gone_on p settings found → IsGoneOn p settings old book
going_on p settings old mid found book has may is = record {
  found = found;
  could = loaded_could old mid (Some found) has;
  problem = may.problem;
  gap = may.gap;
  room = may.room;
  is = is;
}

-- the incumbent that was kept is feasible
pub feasible_kept : (p : Instance) (found : Found) (best : Option (List ℤ))
    → IsImage found.image → found.image.problem ≡ p → best ≡ found.image.best
    → IfSome best (Feasible p)
feasible_kept p found best is problem same =
    subst (λ b. IfSome b (Feasible p)) (sym same)
    (subst (λ q. IfSome found.image.best (Feasible q)) problem is.best)

-- each box that was saved is that of a saved node
each_box : (run : ℕ) (root : List Interval) (nodes : List SavedNode) → AreSavedNodes run root nodes
    → All (AreChangesOf root) (boxes_saved nodes)
each_box run root [] are k d below = absurd (omega (arith, below))
each_box run root (node ∷ nodes) are zero d below = (are zero (omega arith)).changes
each_box run root (node ∷ nodes) are (suc k) d below =
    each_box run root nodes (λ j low. are (suc j) (omega (arith, low))) k d (omega (arith, below))

pub boxes_kept : (p : Instance) (found : Found) (boxes : List (List Change))
    → IsImage found.image → found.image.problem ≡ p
    → boxes ≡ boxes_saved found.image.nodes → All (AreChangesOf (root_of p)) boxes
boxes_kept p found boxes is problem same =
    subst (All (AreChangesOf (root_of p))) (sym same)
    (subst (λ q. All (AreChangesOf (root_of q)) (boxes_saved found.image.nodes)) problem
    (each_box found.image.run (root_of found.image.problem) found.image.nodes is.nodes))

boxes_are : (root : List Interval) (nodes : List SavedNode)
    → boxes_in root nodes ≡ map (area_by root) (boxes_saved nodes)
boxes_are root [] = refl
boxes_are root (node ∷ nodes) = ap (λ bs. area_by root node.changes ∷ bs) (boxes_are root nodes)

pub covered_on : (p : Instance) (gap : ℤ) (found : Found) → found.image.problem ≡ p
    → found.image.gap ≤ℤ gap → IsCovered found.image
    → Covered p gap (one_kept found.image.best)
    (map (area_by (root_of p)) (boxes_saved found.image.nodes))
covered_on p gap found problem low covered =
    subst (Covered p gap (one_kept found.image.best)) (boxes_are (root_of p) found.image.nodes)
    (covered_under_more p found.image.gap gap (one_kept found.image.best)
    (boxes_in (root_of p) found.image.nodes) low
    (subst (λ q. Covered q found.image.gap (one_kept found.image.best) (boxes_in (root_of q)
    found.image.nodes)) problem covered))

-- what resumes from an image that is Covered is Covered
pub covered_kept : (p : Instance) (gap : ℤ) (found : Found) (best : Option (List ℤ))
    (boxes : List (List Change)) → found.image.problem ≡ p → found.image.gap ≤ℤ gap
    → best ≡ found.image.best → boxes ≡ boxes_saved found.image.nodes → IsCovered found.image
    → Covered p gap (one_kept best) (map (area_by (root_of p)) boxes)
covered_kept p gap found best boxes problem low same kept covered =
    subst (λ b. Covered p gap (one_kept b) (map (area_by (root_of p)) boxes)) (sym same)
    (subst (λ b. Covered p gap (one_kept found.image.best) (map (area_by (root_of p)) b)) (sym kept)
    (covered_on p gap found problem low covered))

-- why no book resumes from what was loaded is why the run does not
pub not_next : (p : Instance) (settings : Settings) (old mid : Option History) (found : Found)
    (fault : StartFault) → HasFound old mid (Some found) → HasNoNext p settings found fault
    → IsNotGoneOn p settings old mid fault
not_next p settings old mid found Memory has why = tt
not_next p settings old mid found DiskFault has why = tt
not_next p settings old mid found (BadImage slot at) has why = absurd why
not_next p settings old mid found NoCheckpoint has why = absurd why
not_next p settings old mid found (OtherProblem at kept read) has why =
    record { found = found; has = has; is = why }
not_next p settings old mid found (SmallerGap kept asked) has why =
    record { found = found; has = has; is = why }
not_next p settings old mid found Spent has why =
    record { found = found; has = has; is = why }

-- a first image that is not saved is why the run does not continue
pub not_saved_on : (p : Instance) (settings : Settings) (old new : Option History)
    (fault : StartFault) → IsNotSaved fault → IsNotGoneOn p settings old new fault
not_saved_on p settings old new Memory not = tt
not_saved_on p settings old new DiskFault not = tt
not_saved_on p settings old new (BadImage slot at) not = absurd not
not_saved_on p settings old new NoCheckpoint not = absurd not
not_saved_on p settings old new (OtherProblem at kept read) not = absurd not
not_saved_on p settings old new (SmallerGap kept asked) not = absurd not
not_saved_on p settings old new Spent not = absurd not

-- what resumes from an image makes a book, and is Covered where the image was
pub kept_makes : (p q : Instance) (found : Found) (run : ℕ) (best : Option (List ℤ))
    (boxes : List (List Change)) (settings : Settings) (saver : Saver) → q ≡ p
    → run ≡ next_run (Some found) → best ≡ found.image.best
    → boxes ≡ boxes_saved found.image.nodes → IsImage found.image → AreSettings settings
    → found.image.problem ≡ p → found.image.gap ≤ℤ settings.gap → IsSaverOf (Some found) saver
    → IsNextStart p settings found (record {
      opening = record { problem = q; run = run; best = best; boxes = boxes; settings = settings };
      saver = saver;
    })
kept_makes p q found run best boxes settings saver same number point left is fit problem low kept =
    record {
      book = made_on p settings found run best boxes _ number point left
          (ap (λ (k : Instance). started k run best boxes settings) same);
      opening = record {
        run = omega (arith, number);
        best = subst (λ b. IfSome b (Feasible q)) (sym point)
            (subst (λ (k : Instance). IfSome found.image.best (Feasible k)) (problem ∙ sym same)
            is.best);
        boxes = subst (λ (k : Instance). All (AreChangesOf (root_of k)) boxes) (sym same)
            (boxes_kept p found boxes is problem left);
        settings = fit;
      };
      covered = λ covered. subst
          (λ (k : Instance). Covered k settings.gap (one_kept best)
          (map (area_by (root_of k)) boxes)) (sym same)
          (covered_kept p settings.gap found best boxes problem low point left covered);
      saver = kept;
    }
