use Rattle.mc_text.proofs.plain_lines.delete_of.Goals as goal

pub returns-in_default-clause-none : goal.returns-in_default-clause-none
returns-in_default-clause-none c = λ said noreply h. c.in_default.ensures.none h.key noreply h.words_are
