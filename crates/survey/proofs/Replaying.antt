-- A log of calls, made one after the other.
use Rattle.std.proofs.Common.{◌≡◌, ℕ, ◌+◌, ◌<◌, List, [], ◌∷◌, ◌++◌, length, get_or, take, drop, set, Some, sym, ap, ◌∙◌, arith}
use Rattle.std.proofs.lemmas.List.{append_assoc, map-set, set-get_or, take_more_set, drop_more, drop-set-lt, map_push}
use Rattle.body.specs.Meaning.{Meaning}
use Rattle.calls.specs.declared.Call.{Call}
use Rattle.calls.specs.declared.Entry.{Entry}
use Rattle.calls.specs.declared.Told.{Told}
use Rattle.survey.specs.Calls.{Stand, Done, make, leaves_from, tells_from, telling, calls_of, told_of, each_told}

-- the call of entry i of the log es is made on d: it tells t and leaves d'
module _ (m : Meaning) (es : List Entry) (i : ℕ) (x : Entry) (within : i < length es) (d d' : Stand) (t : Told) where
  abbrev call : Call
  call = (get_or es i x).call

  -- the log then
  abbrev noted : List Entry
  noted = set es i (record { call = call; told = Some t })

  pub calls_kept : calls_of noted ≡ calls_of es
  calls_kept =
      let call_of : Entry → Call = λ k. k.call in
      map-set call_of es i (record { call = call; told = Some t })
      ∙ sym (map-set call_of es i (get_or es i x))
      ∙ ap calls_of (set-get_or es i x)

  -- the calls from entry i on are its own and those that are left after it
  left : calls_of (drop i es) ≡ call ∷ calls_of (drop (i + 1) noted)
  left =
      let rest : drop (i + 1) noted ≡ drop (i + 1) es = drop-set-lt (i + 1) es i _ (omega arith) in
      ap calls_of (drop_more es i x within) ∙ ap (λ (ks : List Entry). call ∷ calls_of ks) (sym rest)

  -- what is told up to entry i
  told : told_of (take (i + 1) noted) ≡ told_of (take i es) ++ (Some (telling t) ∷ [])
  told = ap told_of (take_more_set es i _ within) ∙ map_push _ (take i es) _

  -- what the call does
  module _ (does : Done) (same : does ≡ make m d call) (leaves : d' ≡ does.leaves) where
    after : d' ≡ (make m d call).leaves
    after = leaves ∙ ap (λ (k : Done). k.leaves) same

    pub leaves_more : leaves_from m d' (calls_of (drop (i + 1) noted)) ≡ leaves_from m d (calls_of (drop i es))
    leaves_more =
        ap (λ (k : Stand). leaves_from m k (calls_of (drop (i + 1) noted))) after
        ∙ sym (ap (leaves_from m d) left)

    pub tells_more : telling t ≡ does.tells → told_of (take (i + 1) noted) ++ each_told (tells_from m d' (calls_of (drop (i + 1) noted))) ≡ told_of (take i es) ++ each_told (tells_from m d (calls_of (drop i es)))
    tells_more tells =
        let before = told_of (take i es) in
        let rest : List Call = calls_of (drop (i + 1) noted) in
        let more = each_told (tells_from m (make m d call).leaves rest) in
        let says = tells ∙ ap (λ (k : Done). k.tells) same in
        (λ j. told j ++ each_told (tells_from m (after j) rest))
        ∙ append_assoc before (Some (telling t) ∷ []) more
        ∙ (λ j. before ++ (Some (says j) ∷ more))
        ∙ sym (ap (λ (cs : List Call). before ++ each_told (tells_from m d cs)) left)
