use denote.Param.Send.{sendable}
use Rattle.sqlite_keeper.proofs.KeeperCrosses.{keeper_send}
use Rattle.sqlite_keeper.proofs.keeper.SqliteKeeper.new.Goals as goal

pub sendable-requires-send-K : goal.sendable-requires-send-K
sendable-requires-send-K c κs = search (sendable, keeper_send) depth 40
