use denote.Param.Send.{sendable}
use Rattle.sqlite_keeper.proofs.KeeperCrosses.{keeper_send}
use Rattle.iq.proofs.main.Goals as goal

pub run-end-requires-send-K : goal.run-end-requires-send-K
run-end-requires-send-K c κs = search (sendable, keeper_send) depth 40
