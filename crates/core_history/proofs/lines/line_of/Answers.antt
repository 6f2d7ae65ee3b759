use Rattle.std.proofs.Common.{decimal, ◌∙◌, ap, List, ℕ, ◌++◌}
use Rattle.core_history.specs.Lines.{request_words, reply_words}
use Rattle.core_history.specs.Words.{spaced}
use Rattle.core_history.proofs.LineLemmas.{line_pushed}
use Rattle.core_history.proofs.lines.line_of.Goals as goal

pub returns : goal.returns
returns c =
    let asked = request_words c.args.asked in
    line_pushed (decimal c.args.who.number) asked (reply_words c.args.reply.now) c.push_request.new.text.items c.push_reply.new.text.items c.push.new.self.items
    (c.in_ok-push_request.ensures ∙ ap (λ (l : List ℕ). l ++ spaced asked) c.in_ok-text.ensures) c.in_ok-push_reply.ensures c.in_ok-push.ensures.items
