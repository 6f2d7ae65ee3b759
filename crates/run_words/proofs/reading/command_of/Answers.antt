use Rattle.std.proofs.Common.{◌≡◌, ◌∙◌, ◌∷◌, map, ap, refl, sym, subst}
use Rattle.std.specs.Prelude.{option_map}
use Rattle.clap.specs.Words.{found_of, subcommand_rows_of}
use Rattle.run_words.specs.Words.{CanBeNamed}
use Rattle.run_words.specs.Reading.{line_of, path_of, place_in, place_of}
use Rattle.run_words.proofs.ReadLemmas.{given_found, given_none, line_named, no_place, path_named, place_is, place_named}
use Rattle.run_words.proofs.reading.command_of.Goals as goal

pub returns-in_default-2-clause-none : goal.returns-in_default-2-clause-none
returns-in_default-2-clause-none c = λ command h.
    let at : place_of (subcommand_rows_of c.args.matches.now) ≡ place_in (option_map (λ text. text.now) c.get_str.result) =
    place_named c.args.matches.now c.in-Some.name.now (found_of c.in-Some.inner.now) c.get_str.result
    c.in-Some.ensures.name c.in-Some.ensures.rows c.get_str.ensures in
    no_place c.in_ok-place.field-0 _ c.in_default-2.not-Some c.in_ok-place.ensures.none (subst CanBeNamed at h.named)

pub returns-clause-found : goal.returns-clause-found
returns-clause-found c =
    let line : line_of (subcommand_rows_of c.args.matches.now) ≡ c.in-Some.name.now ∷ map (λ value. value.now) c.unwrap_or-values.result.now =
    line_named c.args.matches.now c.in-Some.name.now (found_of c.in-Some.inner.now) c.get_raw.result _ refl
    c.in-Some.ensures.name c.in-Some.ensures.rows c.get_raw.ensures
    ∙ ap (λ values. c.in-Some.name.now ∷ map (λ value. value.now) values.now) (sym c.unwrap_or-values.ensures) in
    let named = place_is c.in_ok-place.field-0 _ c.in-Some-2.place c.in-Some-2.is c.in_ok-place.ensures.found in
    let at : place_of (subcommand_rows_of c.args.matches.now) ≡ c.in-Some-2.place =
    place_named c.args.matches.now c.in-Some.name.now (found_of c.in-Some.inner.now) c.get_str.result
    c.in-Some.ensures.name c.in-Some.ensures.rows c.get_str.ensures
    ∙ sym named.0 in
    let path : path_of (subcommand_rows_of c.args.matches.now) ≡ option_map (λ text. text.now) c.get_str-2.result =
    path_named c.args.matches.now c.in-Some.name.now (found_of c.in-Some.inner.now) c.get_str-2.result
    c.in-Some.ensures.name c.in-Some.ensures.rows c.get_str-2.ensures in
    given_found (subcommand_rows_of c.args.matches.now) _ c.in-Some-2.place _ c.command_named.result line at path named.1
    c.command_named.ensures.found c.command_named.ensures.path

pub returns-clause-none : goal.returns-clause-none
returns-clause-none c =
    let line : line_of (subcommand_rows_of c.args.matches.now) ≡ c.in-Some.name.now ∷ map (λ value. value.now) c.unwrap_or-values.result.now =
    line_named c.args.matches.now c.in-Some.name.now (found_of c.in-Some.inner.now) c.get_raw.result _ refl
    c.in-Some.ensures.name c.in-Some.ensures.rows c.get_raw.ensures
    ∙ ap (λ values. c.in-Some.name.now ∷ map (λ value. value.now) values.now) (sym c.unwrap_or-values.ensures) in
    let named = place_is c.in_ok-place.field-0 _ c.in-Some-2.place c.in-Some-2.is c.in_ok-place.ensures.found in
    let at : place_of (subcommand_rows_of c.args.matches.now) ≡ c.in-Some-2.place =
    place_named c.args.matches.now c.in-Some.name.now (found_of c.in-Some.inner.now) c.get_str.result
    c.in-Some.ensures.name c.in-Some.ensures.rows c.get_str.ensures
    ∙ sym named.0 in
    let path : path_of (subcommand_rows_of c.args.matches.now) ≡ option_map (λ text. text.now) c.get_str-2.result =
    path_named c.args.matches.now c.in-Some.name.now (found_of c.in-Some.inner.now) c.get_str-2.result
    c.in-Some.ensures.name c.in-Some.ensures.rows c.get_str-2.ensures in
    given_none (subcommand_rows_of c.args.matches.now) _ c.in-Some-2.place _ c.command_named.result line at path c.command_named.ensures.none
