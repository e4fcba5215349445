use Rattle.std.proofs.Common.{FitsSigned, arith}
use Rattle.std.proofs.lemmas.Int.{ints, fits_signed_from_abs, to_z-of_z}
use mir.Syntax.{w64}
use Rattle.ug_propagate.proofs.Shorts.{short_fits}
use Rattle.ug_propagate.proofs.row128.fits.Goals as goal

pub returns-in-Some : goal.returns-in-Some
returns-in-Some c = λ yes.
    let span = c.in-Some.span in
    let fits : FitsSigned w64 span = fits_signed_from_abs w64 span (omega (arith, c.in-Some.ensures.small)) in
    short_fits c.args.term c.args.area.now c.args.slack span c.args.most c.in-Some.ensures c.requires.most
    (omega (arith, ints, rw (to_z-of_z w64 span fits, to_z-of_z w64 c.args.most c.ranges.most) at yes))

pub returns-in-None : goal.returns-in-None
returns-in-None c = c.fits_wide.ensures
