use Rattle.std.proofs.Common.{◌+◌, ◌-◌, ◌≡◌, take, drop, arith, refl, inr}
use Rattle.mixed_lines.proofs.ItemLemmas.{awaits_open}
use Rattle.mixed_lines.proofs.ReadLemmas.{big_front, open_front, wrong_front, block_front}
use Rattle.mixed_lines.proofs.fronts.with_head.Goals as goal

pub returns-then-bytes-gt-BIGGEST_BLOCK : goal.returns-then-bytes-gt-BIGGEST_BLOCK
returns-then-bytes-gt-BIGGEST_BLOCK c =
    inr (big_front c.args.stream.now c.args.long c.args.head c.requires.line c.if-bytes-gt-BIGGEST_BLOCK.true, refl)

pub returns-then-stream-to : goal.returns-then-stream-to
returns-then-stream-to c =
    awaits_open c.args.stream.now
    (open_front c.args.stream.now c.args.long c.args.head c.requires.line c.if-bytes-gt-BIGGEST_BLOCK.false c.if-stream-to.true)

pub returns-then-not-ends_at : goal.returns-then-not-ends_at
returns-then-not-ends_at c =
    inr (
      wrong_front c.args.stream.now c.args.long c.args.head c.requires.line c.if-bytes-gt-BIGGEST_BLOCK.false (omega (arith, c.if-stream-to.false))
          c.if-not-ends_at.ensures,
      refl,
    )

pub returns : goal.returns
returns c =
    let size : c.args.long + 2 + c.args.head.fields.bytes - (c.args.long + 2) ≡ c.args.head.fields.bytes = omega arith in
    let block = take c.args.head.fields.bytes (drop (c.args.long + 2) c.args.stream.now) in
    inr (block_front c.args.stream.now c.args.long c.args.head block _ c.requires.line c.if-bytes-gt-BIGGEST_BLOCK.false
    c.if-not-ends_at.ensures refl (rw size at c.in_ok-said.ensures))
