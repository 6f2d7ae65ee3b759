-- What contracts see of a client.
use Rattle.std.specs.Prelude.{Option}
use Rattle.session_client.specs.Grants.{GrantsView}
use Rattle.conn_server.specs.declared.clients.Present.{Present}

-- the session that it has at present, if it has one, and the grants that this session holds, in the order in which they were given
pub record ClientView : Type 0 where
  pub present : Option Present
  pub grants : GrantsView
