use Rattle.std.proofs.Common.{◌≡◌, ◌∙◌, ap, ap₂, true, false, codes}
use Rattle.std.specs.Prelude.{◌||◌, Bool}
use Rattle.std.proofs.lemmas.Result.{IfOk-weaker}
use Rattle.clap.specs.Words.{App, Shape, app_of, new_app, with_rule, with_subcommand}
use Rattle.clap.specs.Simple.{app_of_fields, on_top}
use Rattle.clap.specs.declared.builder.command.Command.{Command}
use Rattle.clap.specs.declared.builder.command.Command.TheOpen.{Command-F}
use Rattle.clap.specs.declared.builder.command.Command.TheViews.{out-Command}
use Rattle.run_words.specs.Program.{alone, serving, values_rule, warm_rule, with_db, with_values}
use Rattle.run_words.proofs.program.program.Goals as goal

abbrev versioned : Shape → Shape
versioned s = record s { has_version = true }

abbrev unnamed : Shape → Shape
unnamed s = record s { no_binary_name = true }

abbrev wanting : Shape → Shape
wanting s = record s { subcommand_required = true }

abbrev top : App → Shape
top a = a.top

abbrev globals : Command-F Command → Bool
globals fields = fields.has_globals

pub returns : goal.returns
returns c =
    let replay_is : app_of c.in_ok-replay.replay ≡ with_db (codes "replay") =
    c.in_ok-replay.ensures.shape c.db_path.ensures.local
    ∙ ap₂ with_rule (ap app_of_fields c.about.ensures ∙ c.new.ensures.app) c.db_path.ensures.rule in
    let work_db : app_of c.in_ok-arg.field-0 ≡ with_db (codes "work") =
    c.in_ok-arg.ensures.shape c.db_path-2.ensures.local
    ∙ ap₂ with_rule (ap app_of_fields c.about-2.ensures ∙ c.new-2.ensures.app) c.db_path-2.ensures.rule in
    let work_is : app_of c.in_ok-work.work ≡ with_rule (with_db (codes "work")) values_rule =
    c.in_ok-work.ensures.shape c.five_values.ensures.local ∙ ap₂ with_rule work_db c.five_values.ensures.rule in
    let serve_db : app_of c.in_ok-arg-2.field-0 ≡ with_db (codes "serve") =
    c.in_ok-arg-2.ensures.shape c.db_path-3.ensures.local
    ∙ ap₂ with_rule (ap app_of_fields c.about-3.ensures ∙ c.new-3.ensures.app) c.db_path-3.ensures.rule in
    let serve_warm : app_of c.in_ok-arg-3.field-0 ≡ with_rule (with_db (codes "serve")) warm_rule =
    c.in_ok-arg-3.ensures.shape c.warm_path.ensures.local ∙ ap₂ with_rule serve_db c.warm_path.ensures.rule in
    let serve_is : app_of c.in_ok-serve.serve ≡ with_rule (with_rule (with_db (codes "serve")) warm_rule) values_rule =
    c.in_ok-serve.ensures.shape c.five_values-2.ensures.local ∙ ap₂ with_rule serve_warm c.five_values-2.ensures.rule in
    let warm_db : app_of c.in_ok-arg-4.field-0 ≡ with_db (codes "warm") =
    c.in_ok-arg-4.ensures.shape c.db_path-4.ensures.local
    ∙ ap₂ with_rule (ap app_of_fields c.about-4.ensures ∙ c.new-4.ensures.app) c.db_path-4.ensures.rule in
    let warm_is : app_of c.in_ok-warm.warm ≡ with_rule (with_db (codes "warm")) values_rule =
    c.in_ok-warm.ensures.shape c.five_values-3.ensures.local ∙ ap₂ with_rule warm_db c.five_values-3.ensures.rule in
    let about_is : app_of c.about-5.result ≡ new_app (codes "iq") = ap app_of_fields c.about-5.ensures ∙ c.new-5.ensures.app in
    let version_is : app_of c.version.result ≡ on_top versioned (new_app (codes "iq")) = ap app_of_fields c.version.ensures ∙ ap (on_top versioned) about_is in
    let unnamed_is : app_of c.no_binary_name.result ≡ on_top unnamed (on_top versioned (new_app (codes "iq"))) =
    ap app_of_fields c.no_binary_name.ensures ∙ ap (on_top unnamed) version_is in
    let alone_is : app_of c.subcommand_required.result ≡ alone = ap app_of_fields c.subcommand_required.ensures ∙ ap (on_top wanting) unnamed_is in
    let replay_local : (out-Command c.in_ok-replay.replay).has_globals ≡ false =
    c.in_ok-replay.ensures.globals
    ∙ ap₂ (λ (a b : Bool). a || b) (ap globals c.about.ensures ∙ c.new.ensures.local) c.db_path.ensures.local in
    let work_db_local : (out-Command c.in_ok-arg.field-0).has_globals ≡ false =
    c.in_ok-arg.ensures.globals
    ∙ ap₂ (λ (a b : Bool). a || b) (ap globals c.about-2.ensures ∙ c.new-2.ensures.local) c.db_path-2.ensures.local in
    let work_local : (out-Command c.in_ok-work.work).has_globals ≡ false =
    c.in_ok-work.ensures.globals ∙ ap₂ (λ (a b : Bool). a || b) work_db_local c.five_values.ensures.local in
    let serve_db_local : (out-Command c.in_ok-arg-2.field-0).has_globals ≡ false =
    c.in_ok-arg-2.ensures.globals
    ∙ ap₂ (λ (a b : Bool). a || b) (ap globals c.about-3.ensures ∙ c.new-3.ensures.local) c.db_path-3.ensures.local in
    let serve_warm_local : (out-Command c.in_ok-arg-3.field-0).has_globals ≡ false =
    c.in_ok-arg-3.ensures.globals ∙ ap₂ (λ (a b : Bool). a || b) serve_db_local c.warm_path.ensures.local in
    let serve_local : (out-Command c.in_ok-serve.serve).has_globals ≡ false =
    c.in_ok-serve.ensures.globals ∙ ap₂ (λ (a b : Bool). a || b) serve_warm_local c.five_values-2.ensures.local in
    let warm_db_local : (out-Command c.in_ok-arg-4.field-0).has_globals ≡ false =
    c.in_ok-arg-4.ensures.globals
    ∙ ap₂ (λ (a b : Bool). a || b) (ap globals c.about-4.ensures ∙ c.new-4.ensures.local) c.db_path-4.ensures.local in
    let warm_local : (out-Command c.in_ok-warm.warm).has_globals ≡ false =
    c.in_ok-warm.ensures.globals ∙ ap₂ (λ (a b : Bool). a || b) warm_db_local c.five_values-3.ensures.local in
    let one : app_of c.in_ok-subcommand.field-0 ≡ with_subcommand alone (with_db (codes "replay")).top =
    c.in_ok-subcommand.ensures.shape replay_local ∙ ap₂ with_subcommand alone_is (ap top replay_is) in
    let two : app_of c.in_ok-subcommand-2.field-0 ≡ with_subcommand (with_subcommand alone (with_db (codes "replay")).top) (with_values (codes "work")) =
    c.in_ok-subcommand-2.ensures.shape work_local ∙ ap₂ with_subcommand one (ap top work_is) in
    let three : app_of c.in_ok-subcommand-3.field-0 ≡ with_subcommand (with_subcommand (with_subcommand alone (with_db (codes "replay")).top) (with_values (codes "work"))) serving =
    c.in_ok-subcommand-3.ensures.shape serve_local ∙ ap₂ with_subcommand two (ap top serve_is) in
    IfOk-weaker c.subcommand-4.result _ _ (λ m h. h.shape warm_local ∙ ap₂ with_subcommand three (ap top warm_is)) c.subcommand-4.ensures
