use Rattle.std.proofs.Common.{sym, ◌≡◌, ltb, false, length, Ok}
use Rattle.std.proofs.lemmas.Bool.{le-ltb}
use Rattle.ug_records.proofs.Verdicts.{record_is_read}
use Rattle.ug_image.specs.Reading.{record_in, within_record}
use Rattle.ug_image.proofs.record.record_in.Goals as goal

pub returns-in-Ok : goal.returns-in-Ok
unfolding record_in within_record
returns-in-Ok c =
    let same = record_is_read c.split_at.result.0.now c.in-Ok.problem c.in-Ok.ensures.read in
    let test : ltb (length c.args.bytes.now) c.args.count ≡ false = le-ltb _ _ c.if-bytes-count.false in
    rw (test, sym c.split_at.ensures.front, same)
    (λ i. Ok (sym c.own.ensures i, sym c.split_at.ensures.back i))
