use Rattle.session_client.proofs.readers.Reader.takes.Goals as goal

pub returns-in-Asking : goal.returns-in-Asking
returns-in-Asking c = rw c.in-Asking.is (c.answers_ask.ensures c.args.self.now.floor c.in-Asking.lease)

pub returns-in-Storing : goal.returns-in-Storing
returns-in-Storing c = rw c.in-Storing.is (c.answers_set.ensures c.args.self.now.key c.args.self.now.floor)
