-- Requests in their bare form, and where a request is made.
use Rattle.std.specs.Prelude.{Option, Some, None}
use Rattle.rows_model.specs.declared.keys.QKey.{QKey}
use Rattle.session_client.specs.declared.replies.Wanted.{Wanted}
use Rattle.session_client.specs.declared.replies.Wanted.TheVariants as wanted
use Rattle.executor.specs.declared.requests.Request.{Request}
use Rattle.executor.specs.declared.requests.Request.TheVariants as request

-- A request without its value, its transaction and its list of grants. Of a grant that is released, raised or renewed the key and the token are left.
abbrev pub request_of : Wanted → Request
request_of (wanted.Get key floor) = request.Get key floor
request_of (wanted.Ask key) = request.Ask key
request_of (wanted.Staged key txn) = request.Staged key
request_of (wanted.Set key token value stamp) = request.Set key token stamp
request_of (wanted.QaReg key) = request.QaReg key
request_of (wanted.QaRead key) = request.QaRead key
request_of (wanted.Delta key by) = request.Delta key by
request_of (wanted.Commit txn grants) = request.Commit
request_of wanted.End = request.End
request_of (wanted.Dar grant) = request.Dar grant.key grant.token
request_of (wanted.Sar grant value stamp) = request.Sar grant.key grant.token stamp
request_of (wanted.Apply grant stamp) = request.Apply grant.key grant.token stamp
request_of (wanted.Abort grant) = request.Abort grant.key grant.token
request_of (wanted.Raise grant) = request.Raise grant.key grant.token
request_of (wanted.Renew grant) = request.Renew grant.key grant.token
request_of wanted.Nothing = request.Nothing

-- The key on whose shard a request is made. One at the store has none, and nothing has none.
abbrev pub key_of : Wanted → Option QKey
key_of (wanted.Get key floor) = Some key
key_of (wanted.Set key token value stamp) = Some key
key_of (wanted.QaReg key) = Some key
key_of (wanted.QaRead key) = Some key
key_of (wanted.Delta key by) = Some key
key_of (wanted.Dar grant) = Some grant.key
key_of (wanted.Sar grant value stamp) = Some grant.key
key_of (wanted.Apply grant stamp) = Some grant.key
key_of (wanted.Abort grant) = Some grant.key
key_of (wanted.Raise grant) = Some grant.key
key_of (wanted.Renew grant) = Some grant.key
key_of other = None
