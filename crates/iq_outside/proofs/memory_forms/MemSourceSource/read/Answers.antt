use Rattle.std.proofs.Common.{ap, arith}
use Rattle.std.specs.Prelude.{Some}
use Rattle.iq_outside.proofs.MemoryFormsLemmas.{copied}
use Rattle.iq_outside.proofs.memory_forms.MemSourceSource.read.Goals as goal

pub returns-clause-gives : goal.returns-clause-gives
returns-clause-gives c =
    let count_is = rw c.deref-2.ensures.value at c.min-count.ensures in
    let piece_is = rw c.deref-2.ensures.value at c.copy_from_slice.ensures.after in
    let next = copied _ _ c.self.inside.text.items c.args.room.now _ c.self.inside.given c.min-count.result
    (ap (λ v. v.left) c.self.view_is) (ap (λ v. v.given) c.self.view_is) piece_is (omega arith) in
    ap Some next.left_is

pub returns-clause-adds : goal.returns-clause-adds
returns-clause-adds c =
    let count_is = rw c.deref-2.ensures.value at c.min-count.ensures in
    let piece_is = rw c.deref-2.ensures.value at c.copy_from_slice.ensures.after in
    let next = copied _ _ c.self.inside.text.items c.args.room.now _ c.self.inside.given c.min-count.result
    (ap (λ v. v.left) c.self.view_is) (ap (λ v. v.given) c.self.view_is) piece_is (omega arith) in
    ap Some next.gone_is
