use Rattle.std.proofs.Common.{ℕ, ◌≡◌, ap, sym, ◌∙◌, ◌++◌, ◌∷◌, [], ◌<◌, List, length, subst, arith}
use Rattle.shard_dump.specs.declared.rows.DumpRow.{DumpRow}
use Rattle.shard_dump.specs.Faults.{BeginsWith}
use Rattle.shard_dump.proofs.ReadLemmas.{begins_more}
use Rattle.shard_dump.proofs.reading.rows_behind.Goals as goal

pub loop-alloc-preserved : goal.loop-alloc-preserved
loop-alloc-preserved c =
    let rows = c.loop-alloc.rows in
    let row : DumpRow = record { key = c.in-Some.key; value = c.in-Some.value.now } in
    let fewer : length rows < c.args.head.rows = omega (arith, c.len.ensures, c.loop-alloc-test.true) in
    let more = begins_more c.args.text.now c.args.head rows row c.loop-alloc.rest.now c.in-Some.more.now c.loop-alloc.invariant c.in-Some.ensures.next
    fewer c.in-Some.ensures.found in
    let pushed : c.push.new.self ≡ rows ++ row ∷ [] =
    c.in_ok-push.ensures.ok ∙ ap (λ (v : List ℕ). rows ++ record { key = c.in-Some.key; value = v } ∷ []) c.in_ok-value.ensures in
    subst (λ (rs : List DumpRow). BeginsWith c.args.text.now c.args.head rs c.in-Some.more.now) (sym pushed) more
