use Rattle.std.proofs.Common.{rules, codes, ◌≡◌}
use Rattle.change_words.proofs.OnceLemmas.{no_pair}
use Rattle.change_words.proofs.changes.pair_of.Goals as goal

pub returns-in_default-clause-none : goal.returns-in_default-clause-none
returns-in_default-clause-none c =
    let invite : c.args.word.now ≡ codes "invite" → ⊥ = search rules in
    let accept : c.args.word.now ≡ codes "accept" → ⊥ = search rules in
    let reject : c.args.word.now ≡ codes "reject" → ⊥ = search rules in
    let thaw : c.args.word.now ≡ codes "thaw" → ⊥ = search rules in
    let block : c.args.word.now ≡ codes "block" → ⊥ = search rules in
    no_pair c.args.word.now invite accept reject thaw block
