use Rattle.std.proofs.Common.{refl}
use Rattle.lease_table.proofs.IndexLemmas.{KeepsEach-same, KeepsEach-then}
use Rattle.lease_table.proofs.index.Index.settle.Goals as goal

pub loop-self-init : goal.loop-self-init
loop-self-init c = record { sound = c.requires; keeps = KeepsEach-same c.args.self.now c.args.self.now refl refl }

pub loop-self-preserved : goal.loop-self-preserved
loop-self-preserved c = record {
  sound = c.find_next.ensures.sound;
  keeps = KeepsEach-then c.args.self.now c.loop-self.self c.find_next.new.self c.loop-self.invariant.keeps c.find_next.ensures.keeps;
}
