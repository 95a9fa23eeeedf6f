use Rattle.std.proofs.Common.{◌≡◌, ◌++◌, Option, Some, None, List, [], ◌∷◌, ℕ, take, length, ◌≤◌, ap, subst, sym, ◌∙◌, refl, arith, rules}
use Rattle.std.specs.Prelude.{slice_index}
use Rattle.std.specs.Option.{option_map}
use Rattle.std.specs.List.{AllZip}
use Rattle.std.proofs.lemmas.List.{take_all}
use Rattle.chain_defs.specs.Schema.{RawTransaction}
use Rattle.chain_defs.specs.Branch.{branch_places}
use Rattle.chain_tree.specs.Entries.{place_of_hash}
use Rattle.chain_tree.specs.Told.{blocks_of}
use Rattle.rule_defs.specs.Site.{all_there}
use Rattle.rule_defs.specs.Resolving.{named_ancestor, header_heights}
use Rattle.tx_rules.proofs.AllThere.{take-push, all_there-map, there-more, there-none, there-all}
use Rattle.tx_rules.proofs.HeaderLemmas.{zip-push}
use Rattle.tx_rules.proofs.headers.header_places.Goals as goal

pub deps-init : goal.deps-init
unfolding all_there
deps-init c = record {
  found = subst (AllZip (λ hash place. place_of_hash c.args.at.now.entries hash ≡ Some place) []) (sym c.new-places.ensures.items) tt;
  heights = λ stored rows site is. ap (λ (places : List ℕ). Some places) c.new-places.ensures.items;
}

pub returns-in-None : goal.returns-in-None
unfolding header_heights
returns-in-None c = record {
  found = tt;
  heights = λ stored rows site is.
      let place : ℕ → ℕ = slice_index (branch_places (blocks_of stored) c.args.at.now.parent) in
      let at : List ℕ → Option ℕ = λ hash. option_map place (named_ancestor site hash) in
      let none : at c.header_dep_at.result ≡ None = sym (c.header_place.ensures.height stored rows site is) ∙ c.in-None.is in
      sym (there-none at c.args.tx.now.raw.header_deps c.deps.i c.header_dep_at.result c.header_dep_at.ensures none)
      ∙ all_there-map at (named_ancestor site) place c.args.tx.now.raw.header_deps (λ hash. refl);
}

pub returns-then-is_err : goal.returns-then-is_err
returns-then-is_err c = record {
  found = tt;
  heights = λ stored rows site is. tt;
}

pub deps-preserved : goal.deps-preserved
deps-preserved c =
    let hashes : List (List ℕ) = c.args.tx.now.raw.header_deps in
    let hash : List ℕ = c.header_dep_at.result in
    let items : c.push.new.self.items ≡ c.deps.places.items ++ c.in-Some.place ∷ [] = search rules in
    record {
      found =
          subst (λ (these : List (List ℕ)). AllZip (λ h place. place_of_hash c.args.at.now.entries h ≡ Some place) these c.push.new.self.items)
          (sym (take-push hashes c.deps.i hash c.header_dep_at.ensures))
          (subst (AllZip (λ h place. place_of_hash c.args.at.now.entries h ≡ Some place) (take c.deps.i hashes ++ hash ∷ [])) (sym items)
          (zip-push (λ h place. place_of_hash c.args.at.now.entries h ≡ Some place) (take c.deps.i hashes) c.deps.places.items hash c.in-Some.place c.deps.invariant.found
          c.in-Some.ensures.found));
      heights = λ stored rows site is.
          ap (λ (places : List ℕ). Some places) items
          ∙ there-more (λ h. option_map (slice_index (branch_places (blocks_of stored) c.args.at.now.parent)) (named_ancestor site h)) hashes c.deps.i hash c.in-Some.place
          c.deps.places.items (c.deps.invariant.heights stored rows site is) c.header_dep_at.ensures
          (sym (c.header_place.ensures.height stored rows site is) ∙ c.in-Some.is);
    }

pub returns : goal.returns
unfolding header_heights
returns c =
    let long = ap (λ (raw : RawTransaction). length raw.header_deps) c.raw.ensures in
    let all : length c.args.tx.now.raw.header_deps ≤ c.deps.i = omega (arith, long, c.deps-test.false, c.header_deps_count-i-end.ensures.value) in
    record {
      found =
          subst (λ (these : List (List ℕ)). AllZip (λ hash place. place_of_hash c.args.at.now.entries hash ≡ Some place) these c.deps.places.items)
          (take_all c.deps.i c.args.tx.now.raw.header_deps all) c.deps.invariant.found;
      heights = λ stored rows site is.
          let place : ℕ → ℕ = slice_index (branch_places (blocks_of stored) c.args.at.now.parent) in
          let at : List ℕ → Option ℕ = λ hash. option_map place (named_ancestor site hash) in
          there-all at c.args.tx.now.raw.header_deps c.deps.i c.deps.places.items all (c.deps.invariant.heights stored rows site is)
          ∙ all_there-map at (named_ancestor site) place c.args.tx.now.raw.header_deps (λ hash. refl);
    }
