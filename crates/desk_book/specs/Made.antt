-- What is made in place of a request, by its form.
use Rattle.std.specs.Prelude.{None}
use Rattle.rows_model.specs.declared.keys.Sid.{Sid}
use Rattle.key_shard.specs.declared.replies.QAnswer.TheVariants as quarantine
use Rattle.key_shard.specs.declared.replies.Raising.TheVariants as raising
use Rattle.sql_keeper.specs.declared.faults.CommitFault.TheVariants as fault
use Rattle.session_client.specs.declared.replies.Reply.TheVariants as Reply
use Rattle.session_client.specs.declared.replies.Wanted.{Wanted}
use Rattle.session_client.specs.declared.replies.Wanted.TheVariants as wanted
use Rattle.desk_book.specs.declared.forms.Form.{Form}
use Rattle.desk_book.specs.declared.forms.Form.TheVariants as form
use Rattle.desk_book.specs.declared.made.Made.{Made}
use Rattle.desk_book.specs.declared.made.Made.TheVariants as made

-- A request that hands in a grant ends this session, and then drops with that grant.
abbrev pub end_drop : Sid → Wanted → Made
end_drop session (wanted.Dar grant) = made.EndDrop session grant
end_drop session (wanted.Sar grant value stamp) = made.EndDrop session grant
end_drop session (wanted.Apply grant stamp) = made.EndDrop session grant
end_drop session (wanted.Abort grant) = made.EndDrop session grant
end_drop session (wanted.Raise grant) = made.EndDrop session grant
end_drop session other = made.One other

-- What is made of a session's request in this form. A form that is none of such a request leaves it as it is.
abbrev pub made_in : Form → Sid → Wanted → Made
made_in form.VoidSet who (wanted.Set key token value stamp) = made.One (wanted.Set key 0 value stamp)
made_in form.NoValue who (wanted.Sar grant value stamp) = made.One (wanted.Sar grant None stamp)
made_in form.DropOnly who (wanted.Apply grant stamp) = made.One (wanted.Dar grant)
made_in (form.EndDrop session) who request = end_drop session request
made_in form.Shared who (wanted.Raise grant) = made.Answered (Reply.Raise (raising.Shared grant grant.sid))
made_in (form.Refused mode) who (wanted.QaReg key) = made.Answered (Reply.Quar (quarantine.Refused who mode))
made_in (form.Refused mode) who (wanted.QaRead key) = made.Answered (Reply.Quar (quarantine.Refused who mode))
made_in (form.Refused mode) who (wanted.Delta key by) = made.Answered (Reply.Quar (quarantine.Refused who mode))
made_in form.NotCommitted who (wanted.Commit txn grants) = made.Answered (Reply.NotCommitted fault.Ended txn grants)
made_in other who request = made.One request
