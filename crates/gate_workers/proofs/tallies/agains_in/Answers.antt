use Rattle.std.proofs.Common.{◌≡◌, count_by, ap, ◌∙◌, rules}
use Rattle.gate_workers.specs.declared.marks.Mark.{Mark}
use Rattle.gate_workers.specs.Tallies.{is_again}
use Rattle.gate_workers.proofs.tallies.agains_in.Goals as goal

pub returns : goal.returns
returns c =
    let n : c.count.result ≡ count_by (λ (mark : Mark). is_again mark.response) c.marks.result.now = search rules in
    n ∙ ap (count_by (λ (mark : Mark). is_again mark.response)) c.marks.ensures
