use Rattle.std.proofs.Common.{decimal, codes, refl, sym, ◌∙◌, ap, List, ℕ, [], ◌∷◌, ◌++◌, append-nil}
use Rattle.core_history.specs.Lines.{line_of}
use Rattle.core_history.specs.Words.{spaced}
use Rattle.core_history.proofs.LineLemmas.{line_pushed}
use Rattle.core_history.proofs.sweep_lines.tick_line.Goals as goal

pub returns : goal.returns
unfolding line_of
returns c = (
  line_pushed (codes "tick") (decimal c.args.now ∷ []) [] c.push_number.new.text.items c.push_number.new.text.items c.push.new.self.items
      (c.in_ok-push_number.ensures ∙ ap (λ (l : List ℕ). l ++ spaced (decimal c.args.now ∷ [])) c.in_ok-line.ensures.items)
      (sym (append-nil c.push_number.new.text.items)) c.in_ok-push.ensures.items,
  refl,
)
