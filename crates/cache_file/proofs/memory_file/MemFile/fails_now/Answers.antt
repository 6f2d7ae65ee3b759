use Rattle.std.proofs.Common.{ap, ◌∙◌}
use Rattle.iq_outside.specs.Outside.{count_up}
use Rattle.cache_file.specs.Files.{MemView}
use Rattle.cache_file.proofs.FileLemmas.{contains_same}
use Rattle.cache_file.proofs.memory_file.MemFile.fails_now.Goals as goal

pub returns-clause-yes : goal.returns-clause-yes
returns-clause-yes c = λ yes.
    contains_same _ c.args.self.now.fails _ (count_up c.args.self.now.calls)
    (c.as_slice.ensures.value ∙ ap (λ (v : MemView). v.fails) c.self.view_is)
    (c.saturating_add-self-inside.ensures ∙ ap (λ (v : MemView). count_up v.calls) c.self.view_is)
    (c.is_one_of.ensures.yes yes)
