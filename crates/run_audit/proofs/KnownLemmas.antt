-- The keys of hits, as more keys are noted.
use Rattle.std.proofs.Common.{◌≡◌, ℕ, ◌+◌, ◌<◌, List, length, take, get_or, All, subst, ◌∙◌}
use Rattle.std.specs.BTreeMap.{BTreeMap}
use Rattle.std.specs.Global.{Vec}
use Rattle.std.proofs.lemmas.List.Elements.{All-more, All-weaker}
use Rattle.rows_model.specs.declared.keys.QKey.{QKey}
use Rattle.key_shard.specs.declared.steps.Step.{Step}
use Rattle.key_shard.specs.declared.steps.Step.TheVariants as step
use Rattle.run_audit.specs.declared.answers.Version.{Version}
use Rattle.run_audit.specs.Answers.{Keeps, Knows, KnowsTheSame}

pub keeps-on : (a b c : BTreeMap QKey (Vec Version)) → Keeps a b → Keeps b c → Keeps a c
keeps-on a b c first second key known = second key (first key known)

pub keeps-same : (a b : BTreeMap QKey (Vec Version)) → KnowsTheSame a b → Keeps a b
keeps-same a b same key known = same key ∙ known

-- what was known is known
pub still-knows : (old new : BTreeMap QKey (Vec Version)) → Keeps old new → (made : Step) → Knows old made → Knows new made
still-knows old new keeps (step.Hit key sid floor value stamp) known = keeps key known
still-knows old new keeps (step.Lease on sid floor now token deadline) known = tt
still-knows old new keeps (step.Again on sid floor now stands) known = tt
still-knows old new keeps (step.Own on sid) known = tt
still-knows old new keeps (step.Stored on token now value stamp evicted) known = tt
still-knows old new keeps (step.Void on token now) known = tt
still-knows old new keeps (step.Granted on sid mode shift now token deadline) known = tt
still-knows old new keeps (step.Held on sid mode) known = tt
still-knows old new keeps (step.Refused on sid mode holder held) known = tt
still-knows old new keeps (step.Released on sid token how) known = tt
still-knows old new keeps (step.Gone on sid token) known = tt
still-knows old new keeps (step.Raised on sid token) known = tt
still-knows old new keeps (step.Shared on sid token holder) known = tt
still-knows old new keeps (step.Renewed on sid token now deadline) known = tt

pub all-known : (old new : BTreeMap QKey (Vec Version)) → Keeps old new → (steps : List Step) → All (Knows old) steps → All (Knows new) steps
all-known old new keeps steps known = All-weaker (Knows old) (Knows new) (still-knows old new keeps) steps known

-- one step more is known
pub knows-more : (old new : BTreeMap QKey (Vec Version)) (steps : List Step) (i : ℕ) (one : Step) → i < length steps → one ≡ get_or steps i one
    → All (Knows old) (take i steps) → Keeps old new → Knows new one → All (Knows new) (take (i + 1) steps)
knows-more old new steps i one in' is known keeps here =
    All-more (Knows new) steps i one in' (all-known old new keeps (take i steps) known) (subst (Knows new) is here)
