use Rattle.std.proofs.Common.{arith}
use Rattle.mc_text.proofs.LookupLemmas.{lookup_stands}
use Rattle.mc_text.proofs.lookups.lookup_front.Goals as goal

pub returns-clause-stands : goal.returns-clause-stands
returns-clause-stands c =
    lookup_stands c.args.stream.now c.in_ok-args.args.now c.in_ok-key.behind_key.now c.in_ok-behind_space.field-0.now
    c.in_ok-sid.behind_sid.now c.in_ok-behind_space-2.field-0.now c.in_ok-floor.behind_floor.now c.in_ok-rest.rest.now
    c.in_ok-key.key c.in_ok-sid.sid c.in_ok-floor.floor c.in_ok-args.ensures c.in_ok-key.ensures c.in_ok-behind_space.ensures
    c.in_ok-sid.ensures c.in_ok-behind_space-2.ensures c.in_ok-floor.ensures c.in_ok-rest.ensures (omega arith)
