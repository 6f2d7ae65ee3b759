use Rattle.std.proofs.Common.{List, subst, sym}
use Rattle.key_shard.specs.Shards.{ShardView}
use Rattle.expiry_sweeper.specs.declared.replies.SweepWanted.{SweepWanted}
use Rattle.expiry_sweeper.specs.declared.replies.SweepWanted.TheVariants as sweep
use Rattle.core_history.specs.Sweeping.{Sweeps}
use Rattle.core_history.proofs.SweptLemmas.{scan_sweeps, end_sweeps, drop_sweeps}
use Rattle.core_history.proofs.sweeps.make_sweep.Goals as goal

pub drop_swept-requires : goal.drop_swept-requires
drop_swept-requires g c = c.requires.homes c.in-Drop.key

pub returns-in-Scan-clause-sweeps : goal.returns-in-Scan-clause-sweeps
returns-in-Scan-clause-sweeps g c origin world stands time =
    let P : SweepWanted → Type 0 = λ w. Sweeps origin world w c.scan.new.shards.items c.args.store.now c.scan.result in
    let Q : List ShardView → Type 0 = λ shards. Sweeps origin world (sweep.Scan c.in-Scan.shard) shards c.args.store.now c.scan.result in
    subst P (sym c.in-Scan.is) (subst Q (sym c.scan.ensures.left)
    (scan_sweeps origin world c.in-Scan.shard c.args.shards.now.items c.args.store.now c.scan.result stands
    (c.scan.ensures.told origin.shape world stands.0 time)))

pub returns-in-End-clause-sweeps : goal.returns-in-End-clause-sweeps
returns-in-End-clause-sweeps g c origin world stands time =
    let P : SweepWanted → Type 0 = λ w. Sweeps origin world w c.args.shards.now.items c.end.new.store c.end.result in
    subst P (sym c.in-End.is)
    (end_sweeps origin world c.in-End.sid c.args.shards.now.items c.end.new.store c.end.result stands.0 (c.end.ensures.sweeps origin world stands.1))

pub returns-in-Drop-clause-sweeps : goal.returns-in-Drop-clause-sweeps
returns-in-Drop-clause-sweeps g c origin world stands time =
    let P : SweepWanted → Type 0 = λ w. Sweeps origin world w c.drop_swept.new.shards.items c.args.store.now c.drop_swept.result in
    subst P (sym c.in-Drop.is) (drop_sweeps origin world c.in-Drop.key
    c.in-Drop.token c.drop_swept.new.shards.items c.args.store.now c.drop_swept.result stands.1 (c.drop_swept.ensures.sweeps origin.shape world stands.0))
