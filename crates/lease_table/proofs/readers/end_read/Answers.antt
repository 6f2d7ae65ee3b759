use Rattle.lease_table.proofs.LapseLemmas.{AreListed-ended}
use Rattle.lease_table.proofs.readers.end_read.Goals as goal

pub returns-clause-listed : goal.returns-clause-listed
returns-clause-listed c =
    AreListed-ended c.args.key.now c.args.leases.now c.args.was c.args.lapses.now c.requires.listed c.requires.was _ c.drop_read.new.leases
    c.forget_reader.new.self c.drop_read.ensures c.forget_reader.ensures
