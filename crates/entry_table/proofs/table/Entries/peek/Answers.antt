use Rattle.std.proofs.Common.{refl}
use Rattle.entry_table.proofs.KeptLemmas.{lookup-value}
use Rattle.entry_table.proofs.table.Entries.peek.Goals as goal

pub returns-in_err-held-clause-value : goal.returns-in_err-held-clause-value
returns-in_err-held-clause-value c =
    rw (c.from_residual.ensures, ← c.self.view_is, lookup-value c.args.key.now c.self.inside.cache.entries, ← c.in_err-held.ensures) refl

pub returns-clause-value : goal.returns-clause-value
returns-clause-value c =
    rw (← c.self.view_is, lookup-value c.args.key.now c.self.inside.cache.entries, ← c.in_ok-held.ensures) refl
