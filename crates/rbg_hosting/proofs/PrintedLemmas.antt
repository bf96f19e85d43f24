-- Lemmas on the printed lines of a hall.
use Rattle.std.proofs.Common.{◌≡◌, ℕ, ◌+◌, ◌<◌, List, [], ◌∷◌, ◌++◌, length, take, get_or, ap, sym, ◌∙◌, subst, arith}
use Rattle.std.proofs.lemmas.List.{take_more, length-take-le}
use Rattle.rbg_referee.specs.Printed.{AreMessages, seat_lines}
use Rattle.rbg_hosting.specs.Printed.{IsPrintedHall}
use Rattle.rbg_hosting.specs.Printed.IsPrintedHall.{one_more}

-- one more line of the hall is printed
pub printed_more : (queues : List (List ℕ)) (k : ℕ) (bytes printed new : List ℕ) (messages : List (List ℕ)) → k < length queues → bytes ≡ get_or queues k [] → IsPrintedHall (take k queues) printed → AreMessages bytes messages → new ≡ printed ++ seat_lines k messages → IsPrintedHall (take (k + 1) queues) new
printed_more queues k bytes printed new messages below is so_far are adds =
    let long : length (take k queues) ≡ k = length-take-le k queues (omega (arith, below)) in
    let one : IsPrintedHall (take k queues ++ bytes ∷ []) (printed ++ seat_lines (length (take k queues)) messages) = one_more (take k queues) bytes printed messages so_far are in
    let lines : take k queues ++ bytes ∷ [] ≡ take (k + 1) queues = ap (λ b. take k queues ++ b ∷ []) is ∙ sym (take_more queues k [] below) in
    let text : printed ++ seat_lines (length (take k queues)) messages ≡ new = ap (λ n. printed ++ seat_lines n messages) long ∙ sym adds in
    subst (λ s. IsPrintedHall s new) lines (subst (λ t. IsPrintedHall (take k queues ++ bytes ∷ []) t) text one)
