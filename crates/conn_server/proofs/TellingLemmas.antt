-- Which replies of a desk belong to a request: no other comes.
use Rattle.std.proofs.Common.{ℕ, ◌≢◌, refl}
use Rattle.rows_model.specs.declared.keys.QKey.{QKey}
use Rattle.rows_model.specs.declared.keys.Sid.{Sid}
use Rattle.key_shard.specs.declared.replies.Got.{Got}
use Rattle.sql_keeper.specs.declared.stores.Answer.{Answer}
use Rattle.session_client.specs.Belongs.{Belongs}
use Rattle.session_client.specs.declared.replies.Fault.{Fault}
use Rattle.session_client.specs.declared.replies.Reply.{Reply}
use Rattle.session_client.specs.declared.replies.Reply.TheVariants as desk
use Rattle.session_client.specs.declared.replies.Wanted.TheVariants as wanted

pub looked_up : (who : Sid) (key : QKey) (floor : ℕ) (heard : Reply) → Belongs who (wanted.Get key floor) heard
    → ((got : Got) → heard ≢ desk.Got got) → ((fault : Fault) → heard ≢ desk.Fault fault) → ⊥
looked_up who key floor (desk.Got got) b not_got not_fault = not_got got refl
looked_up who key floor (desk.Fault fault) b not_got not_fault = not_fault fault refl
looked_up who key floor other b not_got not_fault = b

pub answered : (who : Sid) (key : QKey) (heard : Reply) → Belongs who (wanted.Ask key) heard
    → ((answer : Answer) → heard ≢ desk.Answer answer) → ((fault : Fault) → heard ≢ desk.Fault fault) → ⊥
answered who key (desk.Answer answer) b not_answer not_fault = not_answer answer refl
answered who key (desk.Fault fault) b not_answer not_fault = not_fault fault refl
answered who key other b not_answer not_fault = b
