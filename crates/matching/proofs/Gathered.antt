-- Claims gathered from a run, one entry after another. Assumes nothing.
use Rattle.std.proofs.Common.{◌≡◌, ℕ, ◌+◌, ◌<◌, ◌≤◌, Bool, true, false, List, [], ◌∷◌, ◌++◌, map, length, get_or, take, set, filter, sym, ap, ◌∙◌, arith}
use Rattle.std.proofs.lemmas.List.Elements.{filter_more}
use Rattle.std.proofs.lemmas.List.{append-nil, map-append, length-append, take_more_set}
use Rattle.std.proofs.lemmas.Bool.Decides.{nat_tests}
use Rattle.sharing.specs.declared.claims.Claim.{Claim}
use Rattle.rules.specs.declared.terms.Entry.{Entry}
use Rattle.rules.specs.Level.{claim_of}
use Rattle.rules.proofs.Defaults.{no_entry}

-- a filter over one element more
module _ {X : Type 0} (p : X → Bool) (xs : List X) (i : ℕ) (d : X) (in' : i < length xs) where
  pub kept_one : p (get_or xs i d) ≡ true → filter p (take (i + 1) xs) ≡ filter p (take i xs) ++ get_or xs i d ∷ []
  kept_one one = filter_more p xs i d in' ∙ grind (arith, nat_tests)

  pub kept_other : p (get_or xs i d) ≡ false → filter p (take (i + 1) xs) ≡ filter p (take i xs)
  kept_other other = filter_more p xs i d in' ∙ grind (arith, nat_tests, append-nil (filter p (take i xs)))

-- the claims of those who pass, of the first i entries, stand in the first n places of the sheet
pub record Gathered (t : Entry → Bool) (run : List Entry) (sheet : List Claim) (i n : ℕ) : Type 0 where
  pub value : n ≡ length (filter t (take i run))
  pub claims : take n sheet ≡ map claim_of (filter t (take i run))
  pub behind : n ≤ i

module _ (t : Entry → Bool) (run : List Entry) (sheet : List Claim) (i n : ℕ) (g : Gathered t run sheet i n) (in' : i < length run) where
  abbrev e : Entry
  e = get_or run i no_entry

  pub gathered_more : n < length sheet → t e ≡ true → Gathered t run (set sheet n (claim_of e)) (i + 1) (n + 1)
  gathered_more room takes =
      let more = kept_one t run i no_entry in' takes in
      record {
        value = omega (arith, g.value, ap length more, length-append (filter t (take i run)) (e ∷ []));
        claims =
            take_more_set sheet n (claim_of e) room
            ∙ ap (λ l. l ++ claim_of e ∷ []) g.claims
            ∙ sym (ap (map claim_of) more ∙ map-append claim_of (filter t (take i run)) (e ∷ []));
        behind = omega (arith, g.behind);
      }

  pub gathered_past : t e ≡ false → Gathered t run sheet (i + 1) n
  gathered_past passes =
      let same = sym (kept_other t run i no_entry in' passes) in
      record { value = g.value ∙ ap length same; claims = g.claims ∙ ap (map claim_of) same; behind = omega (arith, g.behind) }
