-- What lines that replay leave: a log that replays, which begins with the frame's lines.
use Rattle.std.proofs.Common.{◌≡◌, refl, ap, sym, ◌∙◌, subst, ℕ, Bool, ◌&&◌, ◌<◌, ◌≤◌, true, List, [], ◌∷◌, ◌++◌, map, length, drop, get_or, Some, Result, Ok, Err, nat_le, reverse, inl, inr, arith}
use mathlib.Core.List.{reverse_aux}
use Rattle.std.specs.List.{slice_get}
use Rattle.std.proofs.lemmas.Bool.{cases_lt, leb-true, ne_eqb}
use Rattle.std.proofs.lemmas.List.{drop_all, length-append, map-append, reverse-append}
use Rattle.std.proofs.lemmas.Option.{slice_get-get_or}
use Rattle.std.proofs.Math.Seq.{drop-cons}
use Rattle.query.specs.declared.query.TableInstance.{TableInstance}
use Rattle.query.specs.declared.query.Query.{Query}
use Rattle.query.specs.Rows.{Tables}
use Rattle.values.specs.Faults.{◌>>=◌, wanted_if}
use Rattle.values.proofs.Results.{both_ok, wanted_if_ok}
use Rattle.algebra.specs.declared.expr.Expr.{Expr}
use Rattle.algebra.specs.Bags.{Env}
use Rattle.algebra.specs.Classes.{class_rows}
use Rattle.algebra.specs.Columns.{is_subset}
use Rattle.algebra.specs.Equality.{same_columns}
use Rattle.algebra.specs.Expressions.{columns_of, is_formed}
use Rattle.algebra.specs.declared.expr.Aggregation.{Aggregation}
use Rattle.props.specs.Facts.{fact_columns}
use Rattle.props.specs.Knowledge.{Knowledge, are_same}
use Rattle.rules.specs.declared.shape.Shape.{Shape}
use Rattle.frame.specs.Frames.{query_frame}
use Rattle.frame.specs.FormedFrames.{own_aggregates}
use Rattle.algebra.proofs.Same.{equal_expr}
use Rattle.derivation.specs.declared.line.Line.{Line}
use Rattle.derivation.specs.declared.line.Line.TheVariants.{Founds, Adds, Unites, Alike, Gives}
use Rattle.derivation.specs.declared.line.LineReason.{LineReason}
use Rattle.derivation.specs.Logs.{Log, entry, founds, member, knowledge}
use Rattle.derivation.specs.declared.line.LineReason.TheVariants as why
use Rattle.derivation.specs.Replay.{judged, stands, is_known, is_earlier, cites, is_of, given, gives_fact, are_alike, Replays}
use Rattle.derivation.specs.Spelling.{is_expr, is_class}
use Rattle.certificate.specs.declared.certificate.CheckRefusal.{CheckRefusal}
use Rattle.certificate.specs.declared.certificate.CheckReason.TheVariants.{OtherLine}
use Rattle.certificate.specs.Replay.{refusal, is_frame_line, at_line, line_replays, lines_replay}

-- a list of images, turned round
pub map-reverse : {A B : Type 0} (f : A → B) (xs : List A) → map f (reverse xs) ≡ reverse (map f xs)
map-reverse f [] = refl
map-reverse f (x ∷ xs) = ap (map f) (reverse-append (x ∷ []) xs) ∙ map-append f (reverse xs) (x ∷ []) ∙ ap (λ ys. ys ++ f x ∷ []) (map-reverse f xs) ∙ sym (reverse-append (f x ∷ []) (map f xs))

-- a line that replays may stand behind the log, and is the frame's
record StandsBehind (q : Query) (E : Log) (l : Line) : Type 0 where
  stands_there : stands q.tables (own_aggregates q) E l ≡ Ok l
  framed : is_frame_line (slice_get (query_frame q) (length E)) l ≡ true

-- a line that may stand is given back
given-back : (n : ℕ) (r : Result Line LineReason) (k : Line) → at_line n r ≡ Ok k → r ≡ Ok k
given-back n (Ok l) k e = let same : l ≡ k = cc in ap Ok same
given-back n (Err r) k e = cc

-- a step behind a test that passed
through : {A B : Type 0} (r : LineReason) (b : Bool) (x : A) (f : A → Result B LineReason) (y : B) → (wanted_if r b x >>= f) ≡ Ok y → f x ≡ Ok y
through r b x f y is =
    let parts = both_ok (wanted_if r b x) f y is in
    ap f (wanted_if_ok r b x parts.0 parts.1).1 ∙ parts.2

-- what may stand is the line itself
module _ (instances : List TableInstance) (own : List Aggregation) (K : Knowledge) (E : Log) where
  stands-itself : (l k : Line) → judged instances own K E l ≡ Ok k → k ≡ l
  stands-itself (Founds x) k is =
      let l : Line = Founds x in
      let last : Line → Result Line LineReason = λ l. wanted_if why.IllFormed (is_formed instances own K.columns x) l in
      sym (wanted_if_ok why.IllFormed (is_formed instances own K.columns x) l k (through why.UnknownLine (is_known E x) l last k is)).1
  stands-itself (Adds g s x) k is =
      let l : Line = Adds g s x in
      let last : Line → Shape → Result Line LineReason = λ l shape. wanted_if why.OtherLine (is_expr (member E) shape s.makes x) l in
      let rule : Line → Result Line LineReason = λ l. given K E g s >>= last l in
      let formed : Line → Result Line LineReason = λ l. wanted_if why.IllFormed (is_formed instances own K.columns x && same_columns (columns_of instances K.columns x) (K.columns g)) l >>= rule in
      let two = through why.IllFormed (is_formed instances own K.columns x && same_columns (columns_of instances K.columns x) (K.columns g)) l rule k (through why.UnknownLine (founds E g && cites E s && is_known E x) l formed k is) in
      let three = both_ok (given K E g s) (last l) k two in
      sym (wanted_if_ok why.OtherLine (is_expr (member E) three.0 s.makes x) l k three.2).1
  stands-itself (Unites g h s) k is =
      let l : Line = Unites g h s in
      let last : Line → Shape → Result Line LineReason = λ l shape. wanted_if why.OtherLine (is_class (member E) shape s.makes (are_same K h)) l in
      let rule : Line → Result Line LineReason = λ l. given K E g s >>= last l in
      let formed : Line → Result Line LineReason = λ l. wanted_if why.IllFormed (same_columns (K.columns g) (K.columns h)) l >>= rule in
      let two = through why.IllFormed (same_columns (K.columns g) (K.columns h)) l rule k (through why.UnknownLine (founds E g && founds E h && cites E s) l formed k is) in
      let three = both_ok (given K E g s) (last l) k two in
      sym (wanted_if_ok why.OtherLine (is_class (member E) three.0 s.makes (are_same K h)) l k three.2).1
  stands-itself (Alike i j) k is =
      let l : Line = Alike i j in
      let last : Line → Result Line LineReason = λ l. wanted_if why.OtherForm (are_alike K (member E i) (member E j)) l in
      sym (wanted_if_ok why.OtherForm (are_alike K (member E i) (member E j)) l k (through why.UnknownLine (is_earlier E i && is_earlier E j) l last k is)).1
  stands-itself (Gives g m f) k is =
      let l : Line = Gives g m f in
      let last : Line → Result Line LineReason = λ l. wanted_if why.FailedFact (gives_fact instances K g f (member E m)) l in
      let of_class : Line → Result Line LineReason = λ l. wanted_if why.OtherForm (is_of K g (member E m)) l >>= last in
      let formed : Line → Result Line LineReason = λ l. wanted_if why.IllFormed (is_subset (fact_columns f) (K.columns g)) l >>= of_class in
      let two = through why.IllFormed (is_subset (fact_columns f) (K.columns g)) l of_class k (through why.UnknownLine (founds E g && is_earlier E m) l formed k is) in
      sym (wanted_if_ok why.FailedFact (gives_fact instances K g f (member E m)) l k (through why.OtherForm (is_of K g (member E m)) l last k two)).1

line_stands : (q : Query) (E : Log) (l k : Line) → line_replays q E l ≡ Ok k → StandsBehind q E l × (l ≡ k)
line_stands q E l k e =
    let last : Line → Result Line CheckRefusal = λ l. wanted_if (refusal (length E) OtherLine) (is_frame_line (slice_get (query_frame q) (length E)) l) l in
    let parts = both_ok (at_line (length E) (stands q.tables (own_aggregates q) E l)) last k e in
    let there = given-back (length E) (stands q.tables (own_aggregates q) E l) parts.0 parts.1 in
    let is : parts.0 ≡ l = stands-itself q.tables (own_aggregates q) (knowledge q.tables E) E l parts.0 there in
    let framed = wanted_if_ok (refusal (length E) OtherLine) (is_frame_line (slice_get (query_frame q) (length E)) l) l k (ap last (sym is) ∙ parts.2) in
    (record { stands_there = there ∙ ap Ok is; framed = framed.0 }, framed.1)

-- a line and the ones after it
more_replay : (q : Query) (l : Line) (lines : List Line) (E F : Log) → lines_replay q E (l ∷ lines) ≡ Ok F → StandsBehind q E l × (lines_replay q (l ∷ E) lines ≡ Ok F)
more_replay q l lines E F e =
    let parts = both_ok (line_replays q E l) (λ l. lines_replay q (l ∷ E) lines) F e in
    let there = line_stands q E l parts.0 parts.1 in
    (there.0, ap (λ l. lines_replay q (l ∷ E) lines) there.1 ∙ parts.2)

-- what they leave replays
pub log-replays : (q : Query) (lines : List Line) (E F : Log) → Replays q.tables (own_aggregates q) E → lines_replay q E lines ≡ Ok F → Replays q.tables (own_aggregates q) F
log-replays q [] E F replays e = subst (Replays q.tables (own_aggregates q)) (wanted_if_ok (refusal (length E) OtherLine) (nat_le (length (query_frame q)) (length E)) E F e).1 replays
log-replays q (l ∷ lines) E F replays e = let parts = more_replay q l lines E F e in log-replays q lines (l ∷ E) F (parts.0.stands_there, replays) parts.1

-- it is the lines, the last of them first
pub turned : (q : Query) (lines : List Line) (E F : Log) → lines_replay q E lines ≡ Ok F → F ≡ reverse_aux lines E
turned q [] E F e = sym (wanted_if_ok (refusal (length E) OtherLine) (nat_le (length (query_frame q)) (length E)) E F e).1
turned q (l ∷ lines) E F e = turned q lines (l ∷ E) F (more_replay q l lines E F e).1

-- a line where the frame has one
frame-line : (y : Expr) (l : Line) → is_frame_line (Some y) l ≡ true → l ≡ Founds y
frame-line y (Founds x) is = ap Founds (equal_expr x y is)
frame-line y (Adds g s x) is = cc
frame-line y (Unites g h s) is = cc
frame-line y (Alike i j) is = cc
frame-line y (Gives g m f) is = cc

-- the lines begin with those of the frame that are left
pub begins : (q : Query) (lines : List Line) (E F : Log) → lines_replay q E lines ≡ Ok F → (rest : List Line) × (lines ≡ map Founds (drop (length E) (query_frame q)) ++ rest)
begins q [] E F e =
    let all : length (query_frame q) ≤ length E = leb-true _ _ (wanted_if_ok (refusal (length E) OtherLine) (nat_le (length (query_frame q)) (length E)) E F e).0 in
    ([], rw (drop_all (length E) (query_frame q) all) refl)
begins q (l ∷ lines) E F e =
    let parts = more_replay q l lines E F e in
    let more = begins q lines (l ∷ E) F parts.1 in
    elim (cases_lt (length E) (length (query_frame q))) [
      | inl lt ↦
          let y : Expr = get_or (query_frame q) (length E) (entry l) in
          let framed : is_frame_line (Some y) l ≡ true = subst (λ o. is_frame_line o l ≡ true) (slice_get-get_or (query_frame q) (length E) (entry l) lt) parts.0.framed in
          let is : l ≡ Founds y = frame-line y l framed in
          (more.0, ap (λ k. k ∷ lines) is ∙ ap (λ ls. Founds y ∷ ls) more.1 ∙ ap (λ K. map Founds K ++ more.0) (sym (drop-cons (query_frame q) (length E) (entry l) lt)))
      | inr ge ↦ (l ∷ lines, rw (drop_all (length E) (query_frame q) ge) refl)
    ]

-- a class keeps its rows when more are founded
pub later : (instances : List TableInstance) (D : Tables) (ys E : List Expr) (g : ℕ) (e : Env) → g < length E → class_rows instances D (ys ++ E) g e ≡ class_rows instances D E g e
later instances D [] E g e lt = refl
later instances D (y ∷ ys) E g e lt =
    rw (ne_eqb g (length (ys ++ E)) (λ is. absurd (omega (arith, is, lt, length-append ys E)))) (later instances D ys E g e lt)
