-- How wide feasible points are, and of which columns the changes of an image are.
use Rattle.std.proofs.Common.{◌≡◌, ℤ, List, length, arith}
use Rattle.std.proofs.lemmas.List.{length-map}
use Rattle.ug_problem.specs.Instances.{Instance, bounds_of}
use Rattle.ug_problem.specs.Feasible.{Feasible}
use Rattle.ug_image.specs.declared.image.Image.{Image}
use Rattle.ug_image.specs.Images.{IsImage}
use Rattle.ug_print.specs.Checkpoints.{AreNodesWithin}

-- a feasible point has a value for each column
pub feasible_width : (p : Instance) (x : List ℤ) → Feasible p x → length x ≡ length p.columns
feasible_width p x f = omega (arith, f.inside.width, length-map p.columns bounds_of)

-- each change of a node of an image is of a column that is there
pub changes_within : (image : Image) → IsImage image
    → AreNodesWithin image.problem.columns image.nodes
changes_within image is k here j there =
    omega (
      arith,
      ((is.nodes k here).changes j there).differs.there,
      length-map image.problem.columns bounds_of,
    )
