use Rattle.std.proofs.Common.{◌+◌, ◌-◌, ◌≡◌, [], arith}
use Rattle.mc_text.proofs.FrontLemmas.{open_block, block_command, block_wants}
use Rattle.mc_text.specs.Parsing.{with_block}
use Rattle.mc_text.proofs.items.with_block.Goals as goal

pub returns-then-stream-to-clause-front : goal.returns-then-stream-to-clause-front
returns-then-stream-to-clause-front c =
    open_block c.args.stream.now c.args.long c.bytes-bytes.result
    (with_block c.args.head []) c.requires.line c.requires.says c.bytes-bytes.ensures c.if-bytes-gt-BIGGEST_BLOCK.false c.if-stream-to.true

pub returns-clause-front : goal.returns-clause-front
returns-clause-front c =
    let size : c.args.long + 2 + c.bytes-bytes.result - (c.args.long + 2) ≡ c.bytes-bytes.result = omega arith in
    rw c.with_block.ensures (block_command c.args.stream.now c.args.long c.bytes-bytes.result c.args.head c.in_ok-block.block
    c.requires.line c.requires.says c.bytes-bytes.ensures c.if-bytes-gt-BIGGEST_BLOCK.false c.if-not-ends_at.ensures (rw size at c.in_ok-block.ensures))

pub returns-in_err-block-clause-memory : goal.returns-in_err-block-clause-memory
returns-in_err-block-clause-memory c =
    block_wants c.args.stream.now c.args.long c.bytes-bytes.result c.args.head c.from_residual.result c.requires.line c.requires.says
    c.bytes-bytes.ensures c.if-bytes-gt-BIGGEST_BLOCK.false c.if-not-ends_at.ensures
