use Rattle.callers.proofs.FloorLemmas.{hits-meet-their-floors}
use Rattle.callers.proofs.shards.hits_meet_their_floors.Goals as goal

pub returns : goal.returns
returns c = hits-meet-their-floors
