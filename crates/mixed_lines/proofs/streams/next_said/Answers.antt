use Rattle.std.proofs.Common.{◌≡◌, refl}
use Rattle.std.specs.Prelude.{Ok}
use Rattle.mixed_lines.specs.declared.fronts.MixedFront.TheVariants as front
use Rattle.mixed_lines.specs.Fronts.{item_of}
use Rattle.mixed_lines.specs.Items.{bad_line}
use Rattle.mixed_lines.proofs.ItemLemmas.{item_fits}
use Rattle.mixed_lines.proofs.streams.next_said.Goals as goal

pub take-requires : goal.take-requires
take-requires c =
    let is : c.mixed_front.result ≡ Ok (front.Command c.in-Ok-Command.said c.in-Ok-Command.taken) = cc in
    let stands = rw (is, c.rest.ensures) at c.mixed_front.ensures in
    item_fits c.args.framer.now.rest (item_of c.in-Ok-Command.said) c.in-Ok-Command.taken stands

pub returns-in-Ok-Command : goal.returns-in-Ok-Command
returns-in-Ok-Command c =
    let is : c.mixed_front.result ≡ Ok (front.Command c.in-Ok-Command.said c.in-Ok-Command.taken) = cc in
    let stands = rw (is, c.rest.ensures) at c.mixed_front.ensures in
    record { taken = c.in-Ok-Command.taken; stands = stands; goes_on = c.take.ensures }

pub take-requires-in-Ok-BadLine : goal.take-requires-in-Ok-BadLine
take-requires-in-Ok-BadLine c =
    let is : c.mixed_front.result ≡ Ok (front.BadLine c.in-Ok-BadLine.taken) = cc in
    let stands = rw (is, c.rest.ensures) at c.mixed_front.ensures in
    item_fits c.args.framer.now.rest bad_line c.in-Ok-BadLine.taken stands

pub returns-in-Ok-BadLine : goal.returns-in-Ok-BadLine
returns-in-Ok-BadLine c =
    let is : c.mixed_front.result ≡ Ok (front.BadLine c.in-Ok-BadLine.taken) = cc in
    let stands = rw (is, c.rest.ensures) at c.mixed_front.ensures in
    (c.place-place.ensures, record { taken = c.in-Ok-BadLine.taken; stands = stands; goes_on = c.take-in-Ok-BadLine.ensures })

pub returns-in-Ok-LongLine : goal.returns-in-Ok-LongLine
returns-in-Ok-LongLine c =
    let is : c.mixed_front.result ≡ Ok front.LongLine = cc in
    (c.place-place.ensures, rw (is, c.rest.ensures) at c.mixed_front.ensures)

pub returns-in-Ok-BadBlock : goal.returns-in-Ok-BadBlock
returns-in-Ok-BadBlock c =
    let is : c.mixed_front.result ≡ Ok front.BadBlock = cc in
    (c.place-place.ensures, rw (is, c.rest.ensures) at c.mixed_front.ensures)

pub returns-in-Ok-BigBlock : goal.returns-in-Ok-BigBlock
returns-in-Ok-BigBlock c =
    let is : c.mixed_front.result ≡ Ok front.BigBlock = cc in
    (c.place-place.ensures, rw (is, c.rest.ensures) at c.mixed_front.ensures)

pub returns-in-Ok-Open : goal.returns-in-Ok-Open
returns-in-Ok-Open c =
    let is : c.mixed_front.result ≡ Ok front.Open = cc in
    (rw (is, c.rest.ensures) at c.mixed_front.ensures, refl)
