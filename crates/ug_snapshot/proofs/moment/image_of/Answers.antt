use Rattle.std.proofs.Common.{◌∙◌, ap}
use Rattle.ug_nodes.specs.Primitive.{lent}
use Rattle.ug_image.specs.Images.{IsImage}
use Rattle.ug_snapshot.specs.Moments.{IsCovered, IsImageOf, image_with}
use Rattle.ug_snapshot.proofs.Helds.{covered_image, image_is, passed_on}
use Rattle.ug_snapshot.proofs.moment.image_of.Goals as goal

pub returns-clause-moment : goal.returns-clause-moment
returns-clause-moment c =
    passed_on c.within.result c.in_ok-image.image (IsImageOf c.args.book.now c.args.sequence)
    c.within.ensures.same (record {
      nodes = lent c.in_ok-nodes.nodes.items;
      primitive = record {
        each = c.in_ok-nodes.ensures.each;
        rising = c.in_ok-nodes.ensures.rising;
      };
      is = c.in_ok-image.ensures.value ∙ ap (λ nodes. image_with c.args.book.now (lent nodes)
          c.args.sequence) c.as_slice.ensures.value;
    })

pub returns-clause-image : goal.returns-clause-image
returns-clause-image c =
    passed_on c.within.result c.in_ok-image.image IsImage c.within.ensures.same
    (image_is c.args.book.now (lent c.in_ok-nodes.nodes.items) c.with_nodes-made.ensures.book
    (record {
      each = c.in_ok-nodes.ensures.each;
      rising = c.in_ok-nodes.ensures.rising;
    }) c.args.sequence c.in_ok-image.image c.requires c.in_ok-image.ensures.numbers
    c.in_ok-image.ensures.hands
    (c.in_ok-image.ensures.value ∙ ap (λ nodes. image_with c.args.book.now (lent nodes)
    c.args.sequence) c.as_slice.ensures.value))

pub returns-clause-covered : goal.returns-clause-covered
returns-clause-covered c = λ sound.
    passed_on c.within.result c.in_ok-image.image IsCovered c.within.ensures.same
    (covered_image c.args.book.now (lent c.in_ok-nodes.nodes.items) c.args.sequence
    c.in_ok-image.image
    (c.in_ok-image.ensures.value ∙ ap (λ nodes. image_with c.args.book.now (lent nodes)
    c.args.sequence) c.as_slice.ensures.value)
    (c.in_ok-nodes.ensures.covered sound))
