use Rattle.std.proofs.Common.{◌≡◌, take}
use Rattle.std.specs.List.{flat_map}
use Rattle.cache_file.specs.Texts.{part_text}
use Rattle.cache_file.proofs.texts.body_of.Given as goal

abbrev pub invariant-loop-dump : goal.invariant-loop-dump
invariant-loop-dump l = l.body.items ≡ flat_map (λ dump. part_text dump.items) (take l.dump-index l.texts)
