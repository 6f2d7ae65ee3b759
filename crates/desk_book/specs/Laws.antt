-- Which requests of a session are borne out: all that its plan wants.
use Rattle.std.specs.Prelude.{◌≡◌, ◌⊎◌, Bool, true, false, List, [], ◌∷◌}
use Rattle.rows_model.specs.declared.keys.Sid.{Sid}
use Rattle.session_client.specs.Plans.{writes}
use Rattle.session_client.specs.Wants.{wants}
use Rattle.session_client.specs.Follows.{IsRefreshing}
use Rattle.session_client.specs.Belongs.{Belongs}
use Rattle.session_client.specs.Desks.{Exchange, Began, Asked}
use Rattle.session_client.specs.declared.plans.Plan.{Plan}
use Rattle.session_client.specs.declared.replies.Reply.{Reply}
use Rattle.desk_book.specs.Borne.{IsBorne}
use Rattle.desk_book.specs.Heard.{book_of}

-- Whether memory ran out so far when the session was told of its commit. That stays as it was, but for the reply that
-- tells of a commit and brings a grant to refresh.
abbrev pub IsShort : Bool → Reply → Bool → Type 0
IsShort before book now = (now ≡ before) ⊎ (IsRefreshing book × (now ≡ true))

-- A session of this number and plan began and has heard these replies by these calls, both the latest first: each
-- request is the one that it wanted after the replies before, and each reply belongs to its request.
abbrev pub HasAsked : Sid → Plan → Bool → List Reply → List Exchange → Type 0
HasAsked who plan short [] calls = (short ≡ false) × (calls ≡ Began (writes plan) who ∷ [])
HasAsked who plan short (book ∷ heard) calls =
    (before : Bool) × (earlier : List Exchange) × HasAsked who plan before heard earlier
    × Belongs who (wants plan before heard) book × IsShort before book short × (calls ≡ Asked who (wants plan before heard) book ∷ earlier)

-- The book of its calls bears out what a session wants next, whatever it has heard.
abbrev pub WantsAreBorne : Type 0
WantsAreBorne =
    (who : Sid) (plan : Plan) (short : Bool) (heard : List Reply) (calls : List Exchange) → HasAsked who plan short heard calls
    → IsBorne (book_of calls) who (wants plan short heard)
