-- Positions that are met at a vertex.
use Rattle.rbg_base.proofs.Common.{◌≡◌, ℕ, List, [], ◌∷◌, ◌++◌, append_assoc, refl, sym, ap, subst, ◌∙◌, inl, inr, All, Contains, All-nil, All-push, All-weaker, Contains-push, Contains-append_left}
use Rattle.std.proofs.lemmas.List.{append-nil}
use Rattle.rbg_search.specs.Meeting.{Adds, MeetsAll}

-- No position was gone over, and one more.
pub meets_none : (xs : List (ℕ × ℕ)) (v : ℕ) → MeetsAll xs xs v []
meets_none xs v = record { more = []; grown = sym (append-nil xs); only = All-nil (λ q. (q.0 ≡ v) × Contains [] q.1); all = All-nil (λ p. Contains xs (v, p)) }

pub meets_one : (old xs ys : List (ℕ × ℕ)) (v p : ℕ) (ps : List ℕ) → MeetsAll old xs v ps → Adds xs ys (v, p) → MeetsAll old ys v (ps ++ p ∷ [])
meets_one old xs ys v p ps meets (inl (there, same)) = record {
  more = meets.more;
  grown = same ∙ meets.grown;
  only = All-weaker (λ q. (q.0 ≡ v) × Contains ps q.1) (λ q. (q.0 ≡ v) × Contains (ps ++ p ∷ []) q.1) (λ q h. (h.0, Contains-append_left ps (p ∷ []) q.1 h.1)) meets.more meets.only;
  all = All-push (λ r. Contains ys (v, r)) ps p (subst (λ (zs : List (ℕ × ℕ)). All (λ r. Contains zs (v, r)) ps) (sym same) meets.all) (subst (λ (zs : List (ℕ × ℕ)). Contains zs (v, p)) (sym same) there);
}
meets_one old xs ys v p ps meets (inr (new, same)) = record {
  more = meets.more ++ (v, p) ∷ [];
  grown = same ∙ ap (λ (zs : List (ℕ × ℕ)). zs ++ (v, p) ∷ []) meets.grown ∙ append_assoc old meets.more ((v, p) ∷ []);
  only = All-push (λ q. (q.0 ≡ v) × Contains (ps ++ p ∷ []) q.1) meets.more (v, p)
      (All-weaker (λ q. (q.0 ≡ v) × Contains ps q.1) (λ q. (q.0 ≡ v) × Contains (ps ++ p ∷ []) q.1) (λ q h. (h.0, Contains-append_left ps (p ∷ []) q.1 h.1)) meets.more meets.only)
      (refl, Contains-push ps p);
  all =
      subst (λ (zs : List (ℕ × ℕ)). All (λ r. Contains zs (v, r)) (ps ++ p ∷ [])) (sym same)
      (All-push (λ r. Contains (xs ++ (v, p) ∷ []) (v, r)) ps p
      (All-weaker (λ r. Contains xs (v, r)) (λ r. Contains (xs ++ (v, p) ∷ []) (v, r)) (λ r h. Contains-append_left xs ((v, p) ∷ []) (v, r) h) ps meets.all)
      (Contains-push xs (v, p)));
}
