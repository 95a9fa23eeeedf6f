use Rattle.std.proofs.Common.{◌≡◌, ℕ, suc, List, refl}
use Rattle.chain_defs.specs.CkbHash.{round, round_words, rounds, sigma}
use Rattle.blake2b_ckb.proofs.compression.rounds.Goals as goal

rounds_none : (v m : List ℕ) → v ≡ rounds v m 0
unfolding rounds
rounds_none v m = refl

-- one round more, on its words
rounds_next : (v m : List ℕ) (r : ℕ) (before words after : List ℕ) → before ≡ rounds v m r → words ≡ round_words m r
    → after ≡ round before words → after ≡ rounds v m (suc r)
unfolding rounds
rounds_next v m r before words after held order is = rw (is, order, held) refl

pub returns : goal.returns
unfolding sigma
returns c =
    let v : List ℕ = c.args.v.now in
    let m : List ℕ = c.args.m in
    let v0 : v ≡ rounds v m 0 = rounds_none v m in
    let v1 = rounds_next v m 0 _ _ _ v0 refl c.round.ensures in
    let v2 = rounds_next v m 1 _ _ _ v1 refl c.round-2.ensures in
    let v3 = rounds_next v m 2 _ _ _ v2 refl c.round-3.ensures in
    let v4 = rounds_next v m 3 _ _ _ v3 refl c.round-4.ensures in
    let v5 = rounds_next v m 4 _ _ _ v4 refl c.round-5.ensures in
    let v6 = rounds_next v m 5 _ _ _ v5 refl c.round-6.ensures in
    let v7 = rounds_next v m 6 _ _ _ v6 refl c.round-7.ensures in
    let v8 = rounds_next v m 7 _ _ _ v7 refl c.round-8.ensures in
    let v9 = rounds_next v m 8 _ _ _ v8 refl c.round-9.ensures in
    let v10 = rounds_next v m 9 _ _ _ v9 refl c.round-10.ensures in
    let v11 = rounds_next v m 10 _ _ _ v10 refl c.round-11.ensures in
    rounds_next v m 11 _ _ _ v11 refl c.round-12.ensures
