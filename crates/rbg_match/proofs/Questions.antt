-- What refused questions mean.
use Rattle.std.proofs.Common.{◌≡◌, ◌⊎◌, inl, inr, ap, Result, Ok, Err, IfErr}

-- what holds if a question is too deep, and if it is too wide
pub where_above : {T E P : Type 0} (result : Result T E) (deep wide : E) → ((result ≡ Err deep) ⊎ (result ≡ Err wide) → P) → IfErr result (λ over. (over ≡ deep) ⊎ (over ≡ wide) → P)
where_above (Ok value) deep wide holds = tt
where_above (Err over) deep wide holds = λ above. elim above [
  | inl is ↦ holds (inl (ap (λ why. Err why) is))
  | inr is ↦ holds (inr (ap (λ why. Err why) is))
]
