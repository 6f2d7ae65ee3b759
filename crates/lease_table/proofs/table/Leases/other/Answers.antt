use Rattle.std.proofs.Common.{not, ap, ◌∙◌}
use Rattle.lease_table.specs.Leases.{first, others_in, is_of}
use Rattle.lease_table.proofs.ListLemmas.{find-first}
use Rattle.lease_table.proofs.table.Leases.other.Goals as goal

pub returns : goal.returns
returns c =
    c.other_quar.ensures ∙ find-first (λ quar. not (is_of c.args.who quar)) c.on_key.result.quars.now
    ∙ ap (λ quars. first (others_in c.args.who quars)) c.on_key.ensures.quars
