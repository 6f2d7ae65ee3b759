use Rattle.std.proofs.Common.{ℕ, List, length, ◌++◌, ap, ◌∙◌}
use Rattle.cache_file.specs.Texts.{head_text}
use Rattle.cache_file.proofs.WriteLemmas.{cache_joined}
use Rattle.cache_file.proofs.texts.cache_text.Goals as goal

pub returns : goal.returns
returns c =
    cache_joined (λ dump. dump.items) c.args.texts.now c.in_ok-body.body.items c.in_ok-text.text.items c.push.new.self.items c.extend_from_slice.new.self.items
    c.in_ok-body.ensures
    (c.in_ok-text.ensures ∙ ap (λ (b : List ℕ). head_text (length c.args.texts.now) b) c.as_slice.ensures.value)
    c.in_ok-push.ensures.items
    (c.in_ok-extend_from_slice.ensures.items ∙ ap (λ (b : List ℕ). c.push.new.self.items ++ b) c.as_slice-2.ensures.value)
