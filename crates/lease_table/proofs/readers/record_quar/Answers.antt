use Rattle.std.proofs.Common.{refl}
use Rattle.lease_table.proofs.LapseLemmas.{AreListed-ended, AreListed-same, reads-stay}
use Rattle.lease_table.proofs.readers.record_quar.Goals as goal

pub returns-in_err-put_quar-clause-listed : goal.returns-in_err-put_quar-clause-listed
returns-in_err-put_quar-clause-listed c =
    AreListed-same c.args.leases.now c.put_quar.new.leases c.args.lapses.now c.args.lapses.now c.requires.listed (λ q. refl)
    (reads-stay c.args.leases.now c.put_quar.new.leases c.requires.ordered c.in_err-put_quar.ensures.err)

pub returns-clause-listed : goal.returns-clause-listed
returns-clause-listed c =
    AreListed-ended c.args.key c.args.leases.now c.args.was c.args.lapses.now c.requires.listed c.requires.was _ c.put_quar.new.leases
    c.forget_reader.new.self c.in_ok-put_quar.ensures.ok c.forget_reader.ensures
