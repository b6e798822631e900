-- What a probe says and leaves, by what the body answers.
use Rattle.std.proofs.Common.{◌≡◌, ℕ, ◌+◌, ◌<◌, true, false, List, [], ◌∷◌, length, nat_abs, Ok, sym, refl, ap, ◌∙◌, arith}
use Rattle.std.proofs.lemmas.Bool.{lt-ltb, le-leb, and_from, cond-true, cond-false}
use Rattle.std.proofs.lemmas.List.{nil_from_length}
use Rattle.plane.specs.declared.direction.Direction.{Direction}
use Rattle.plane.specs.declared.point.Point.{Point}
use Rattle.plane.specs.Directed.{directed}
use Rattle.plane.specs.Plane.{vector}
use Rattle.plane.proofs.Supporting.{some_way}
use Rattle.body.specs.Meaning.{Meaning, Answers}
use Rattle.body.proofs.Answering.{answers_is}
use Rattle.survey.specs.Rules.{State, Found, closed, question, first_open, take_in, about_edge, by_point, by_answer, asks, probe}

-- a direction is made of two numbers that make one
directed_yes : (d : Direction) → directed (vector d) ≡ true
directed_yes d = and_from _ _ (lt-ltb 0 (nat_abs d.x + nat_abs d.y) d.some) (and_from _ _ (le-leb (nat_abs d.x) 2000000 d.wide) (le-leb (nat_abs d.y) 2000000 d.high))

-- a survey that is not closed, asks d and is answered p
module _ (m : Meaning) (s : State) (d : Direction) (p : Point) (not_closed : closed s ≡ false) (e : vector d ≡ question s.found) (a : Answers m (vector d) (Ok p)) where
  probe_answered : by_point s (vector d) p s.found ≡ probe m s
  probe_answered =
      ap (by_answer s (vector d)) (answers_is m (vector d) (Ok p) (some_way d) a)
      ∙ sym (cond-true _ _ _ (directed_yes d))
      ∙ ap (asks m s) e
      ∙ sym (cond-false _ _ _ not_closed)

  pub probe_first : length s.found ≡ 0 → take_in s 0 (vector d) p ≡ probe m s
  probe_first none = ap (by_point s (vector d) p) (sym (nil_from_length s.found none)) ∙ probe_answered

  pub probe_about : 0 < length s.found → (n : ℕ) → first_open s.found ≡ n → about_edge s n (vector d) p ≡ probe m s
  probe_about some n first = ap (λ (i : ℕ). about_edge s i (vector d) p) (sym first) ∙ go s.found some ∙ probe_answered
    where
      go : (fs : List Found) → 0 < length fs → about_edge s (first_open fs) (vector d) p ≡ by_point s (vector d) p fs
      go [] h = absurd (omega arith)
      go (c ∷ fs) h = refl
