-- The text of a line is cut into its words: single spaces stand between them, and none has a space in it. It is text, and has no LF.
use Rattle.std.proofs.Common.{rules, ◌≡◌, ℕ, ◌<◌, ◌==◌, ◌||◌, Bool, true, false, List, Result, [], ◌∷◌, ◌++◌, flat_map, append-nil, append_assoc, refl, sym, ◌∙◌, ap, subst, codes, decimal, arith}
use Rattle.std.proofs.lemmas.List.Splits.{slice_split_none, slice_split_at}
use Rattle.std.proofs.lemmas.Bool.{and_parts}
use Rattle.std.proofs.lemmas.Bool.Decides.{nat_tests}
use Rattle.std.proofs.lemmas.List.Elements.{All-from_recursion}
use Rattle.std.proofs.lemmas.Str.{IsUtf8-from_ascii}
use Rattle.std.proofs.lemmas.Str.Ascii.{IsAscii-from_all}
use Rattle.std.specs.Char.{is_ascii_digit}
use Rattle.std.specs.List.{list_all, AllByRecursion, join_by, slice_split}
use Rattle.query.specs.declared.query.Aggregate.{Aggregate}
use Rattle.query.specs.declared.query.Aggregate.TheVariants as by
use Rattle.algebra.specs.declared.condition.Condition.{Condition}
use Rattle.algebra.specs.declared.expr.Aggregation.{Aggregation}
use Rattle.algebra.specs.declared.expr.Expr.{Expr}
use Rattle.algebra.specs.declared.expr.Expr.TheVariants.{Get, Select, Join, LeftJoin, Semi, Anti, Keep, Distinct, Group}
use Rattle.algebra.specs.ConjunctOrder.{condition_text}
use Rattle.physical.specs.declared.plan.OrderKey.{OrderKey}
use Rattle.props.specs.declared.fact.Fact.{Fact}
use Rattle.props.specs.declared.fact.Fact.TheVariants.{NotNull, WeakKey, StrongKey}
use Rattle.book.specs.Book.{code_of}
use Rattle.book.specs.declared.names.RuleName.{RuleName}
use Rattle.book.proofs.RuleLaws.{each_rule}
use Rattle.derivation.specs.declared.line.Step.{Step}
use Rattle.derivation.specs.declared.line.Line.{Line}
use Rattle.derivation.specs.declared.line.Line.TheVariants.{Founds, Adds, Unites, Alike, Gives}
use Rattle.certificate_text.specs.Conditions.{IsReadable}
use Rattle.certificate_text.specs.Parts.{IsShort, AreShort}
use Rattle.certificate_text.specs.Numerals.{numeral}
use Rattle.certificate_text.specs.ListReading.{part_conjuncts_text}
use Rattle.certificate_text.specs.PartTexts as parts
use Rattle.certificate_text.specs.PartTexts.{is_graphic, lacks}
use Rattle.certificate_text.specs.Spelled.{IsShortAggregate, IsShortAggregation}
use Rattle.certificate_text.proofs.ConjunctTexts.{condition_graphic}
use Rattle.certificate_text.proofs.DecimalNumerals.{short_decimal}
use Rattle.certificate_text.proofs.Lacking.{pass_both, pass_more, passing_lack, each_lacks}
use Rattle.certificate_text.proofs.Numerals.{numeral_digits}
use Rattle.certificate_text.specs.CertificateText as text
use Rattle.certificate_text.specs.CertificateText.{Text, keys_text, direction_text, list_text, numbers_text, aggregate_text, aggregation_text, aggregations_text, conjuncts_text, expr_text, step_text, fact_text, line_words}
use Rattle.certificate_text.specs.Limits.{most_nested}
use Rattle.certificate_text.specs.Readable.{AreAggregations, AreColumns, AreConjuncts, AreShortKeys, IsShortKey, IsReadableExpr, IsReadableFact, IsReadableLine, IsReadableStep}
use Rattle.certificate_read.specs.declared.line_fault.LineFault.{LineFault}
use Rattle.certificate_read.specs.LineReading.{expr_wording, step_wording, fact_wording, line_wording}
use Rattle.certificate_read.specs.NodeReading.{key_text}
use Rattle.certificate_read.specs.TextReading.{IsLine}
use Rattle.certificate_read.specs.WordReading.{UnlessMemory, words_in, conjuncts_wording, sides_wording}
use Rattle.certificate_read.specs.Wordings.{Wording, ReadsLine}
use Rattle.certificate_read.proofs.LineLaws.{line_told}
use Rattle.certificate_read.proofs.PartWords.{numbers_same, aggregations_same, keys_same}
use Rattle.certificate_read.proofs.WideConjuncts.{conjuncts_wide}
use Rattle.certificate_read.proofs.Wordings.{read_back}

-- ---- words, whose characters are ones of ASCII that can be seen

abbrev pub IsGraphic : Text → Type 0
IsGraphic w = list_all is_graphic w ≡ true

pub numeral_graphic : (n : ℕ) → IsGraphic (numeral n)
numeral_graphic n = pass_more is_ascii_digit is_graphic digit_graphic (numeral n) (numeral_digits n) where
  digit_graphic : (b : ℕ) → is_ascii_digit b ≡ true → is_graphic b ≡ true
  digit_graphic b h = grind (arith, nat_tests)

pub number_graphic : (n : ℕ) → IsShort n → IsGraphic (decimal n)
number_graphic n s = ap (list_all is_graphic) (short_decimal n s) ∙ numeral_graphic n

more_graphic : {X : Type 0} (f : X → Text) (separator : Text) (P : X → Type 0) → IsGraphic separator → ((x : X) → P x → IsGraphic (f x)) → (xs : List X) → AllByRecursion P xs → IsGraphic (flat_map (λ x. separator ++ f x) xs)
more_graphic f separator P free h [] all = refl
more_graphic f separator P free h (x ∷ xs) all =
    pass_both is_graphic (separator ++ f x) (flat_map (λ x. separator ++ f x) xs) (pass_both is_graphic separator (f x) free (h x all.0)) (more_graphic f separator P free h xs all.1)

joined_graphic : {X : Type 0} (f : X → Text) (separator : Text) (P : X → Type 0) → IsGraphic separator → ((x : X) → P x → IsGraphic (f x)) → (xs : List X) → AllByRecursion P xs → IsGraphic (join_by f separator xs)
joined_graphic f separator P free h [] all = refl
joined_graphic f separator P free h (x ∷ xs) all = pass_both is_graphic (f x) (flat_map (λ x. separator ++ f x) xs) (h x all.0) (more_graphic f separator P free h xs all.1)

pub list_graphic : {X : Type 0} (f : X → Text) (P : X → Type 0) → ((x : X) → P x → IsGraphic (f x)) → (xs : List X) → AllByRecursion P xs → IsGraphic (list_text f xs)
list_graphic f P h [] all = refl
list_graphic f P h (x ∷ xs) all = joined_graphic f (codes ",") P refl h (x ∷ xs) all

pub numbers_graphic : (ns : List ℕ) → AreShort ns → IsGraphic (numbers_text ns)
numbers_graphic ns s = list_graphic decimal IsShort number_graphic ns s

aggregate_graphic : (a : Aggregate) → IsShortAggregate a → IsGraphic (aggregate_text a)
aggregate_graphic by.CountRows s = refl
aggregate_graphic (by.Count k) s = number_graphic k s
aggregate_graphic (by.Sum k) s = number_graphic k s
aggregate_graphic (by.Min k) s = number_graphic k s
aggregate_graphic (by.Max k) s = number_graphic k s

aggregation_graphic : (a : Aggregation) → IsShortAggregation a → IsGraphic (aggregation_text a)
aggregation_graphic a s = pass_both is_graphic (decimal a.column) (61 ∷ aggregate_text a.aggregate) (number_graphic a.column s.0) (aggregate_graphic a.aggregate s.1)

pub aggregations_graphic : (G : List Aggregation) → AreAggregations G → IsGraphic (aggregations_text G)
aggregations_graphic G s = list_graphic aggregation_text IsShortAggregation aggregation_graphic G s.0

pub conjuncts_graphic : (C : List Condition) → AreConjuncts C → IsGraphic (conjuncts_text C)
conjuncts_graphic C s =
    pass_both is_graphic (join_by condition_text (codes ";") C) (codes "]") (joined_graphic condition_text (codes ";") (IsReadable most_nested) refl (λ c h. condition_graphic most_nested c h) C s.0) refl

direction_graphic : (b : Bool) → IsGraphic (direction_text b)
direction_graphic false = refl
direction_graphic true = refl

key_graphic : (k : OrderKey) → IsShortKey k → IsGraphic (text.key_text k)
key_graphic k s = pass_both is_graphic (decimal k.column) (direction_text k.descending) (number_graphic k.column s) (direction_graphic k.descending)

code_graphic : (r : RuleName) → IsGraphic (code_of r)
code_graphic = each_rule (λ r. IsGraphic (code_of r)) (search rules)

-- ---- words with single spaces between them

abbrev pub spaced : List Text → Text
spaced ws = join_by (λ w. w) (codes " ") ws

abbrev pub AreGraphic : List Text → Type 0
AreGraphic = AllByRecursion IsGraphic

no_space : (w : Text) → IsGraphic w → lacks 32 w ≡ true
no_space w free = passing_lack is_graphic 32 w refl free

pub words_cut : (w : Text) (ws : List Text) → AreGraphic (w ∷ ws) → slice_split (λ b. b == 32) (spaced (w ∷ ws)) ≡ w ∷ ws
words_cut w [] free = ap (slice_split (λ b. b == 32)) (append-nil w) ∙ slice_split_none (λ b. b == 32) w (each_lacks 32 w (no_space w free.0))
words_cut w (v ∷ ws) free = slice_split_at (λ b. b == 32) w 32 (spaced (v ∷ ws)) (each_lacks 32 w (no_space w free.0)) refl ∙ ap (λ ts. w ∷ ts) (words_cut v ws free.1)

-- words behind words
pub spaced-append : (w : Text) (ws : List Text) (v : Text) (vs : List Text) → spaced ((w ∷ ws) ++ (v ∷ vs)) ≡ spaced (w ∷ ws) ++ (codes " " ++ spaced (v ∷ vs))
spaced-append w [] v vs = ap (λ t. t ++ (codes " " ++ spaced (v ∷ vs))) (sym (append-nil w))
spaced-append w (u ∷ ws) v vs = ap (λ t. w ++ (32 ∷ t)) (spaced-append u ws v vs) ∙ sym (append_assoc w (32 ∷ spaced (u ∷ ws)) (32 ∷ spaced (v ∷ vs)))

pub all_both : (ws vs : List Text) → AreGraphic ws → AreGraphic vs → AreGraphic (ws ++ vs)
all_both [] vs h k = k
all_both (w ∷ ws) vs h k = (h.0, all_both ws vs h.1 k)

-- ---- parts of a line

-- a part of a line: words, and its text is they, with spaces between them
abbrev pub IsPart : Text → List Text → Type 0
IsPart t ws = (w : Text) × (vs : List Text) × (ws ≡ w ∷ vs) × (t ≡ spaced (w ∷ vs)) × AreGraphic (w ∷ vs)

-- one part behind another, with a space between them
pub both_parts : (t u : Text) (ts us : List Text) → IsPart t ts → IsPart u us → IsPart (t ++ (codes " " ++ u)) (ts ++ us)
both_parts t u ts us h k =
    (h.0, h.1 ++ (k.0 ∷ k.1), (λ i. h.2 i ++ k.2 i), (λ i. h.3 i ++ (32 ∷ k.3 i)) ∙ sym (spaced-append h.0 h.1 k.0 k.1), all_both (h.0 ∷ h.1) (k.0 ∷ k.1) h.4 k.4)

pub one_word : (w : Text) → IsGraphic w → IsPart w (w ∷ [])
one_word w free = (w, [], refl, sym (append-nil w), (free, tt))

-- a word that is spelled in another way, too
pub other_word : (v w : Text) → v ≡ w → IsGraphic v → IsPart v (w ∷ [])
other_word v w e free = subst (λ w. IsPart v (w ∷ [])) e (one_word v free)

pub number_part : (n : ℕ) → IsShort n → IsPart (decimal n) (numeral n ∷ [])
number_part n s = other_word (decimal n) (numeral n) (short_decimal n s) (number_graphic n s)

numbers_part : (ns : List ℕ) → AreShort ns → IsPart (numbers_text ns) (parts.numbers_text ns ∷ [])
numbers_part ns s = other_word (numbers_text ns) (parts.numbers_text ns) (numbers_same ns s) (numbers_graphic ns s)

pub columns_part : (K : List ℕ) → AreColumns K → IsPart (numbers_text K) (parts.numbers_text K ∷ [])
columns_part K h = numbers_part K h.0

pub aggregations_part : (G : List Aggregation) → AreAggregations G → IsPart (aggregations_text G) (parts.aggregations_text G ∷ [])
aggregations_part G h = other_word (aggregations_text G) (parts.aggregations_text G) (aggregations_same G h) (aggregations_graphic G h)

pub conjuncts_part : (C : List Condition) → AreConjuncts C → IsPart (conjuncts_text C) (part_conjuncts_text C ∷ [])
conjuncts_part C h = other_word (conjuncts_text C) (part_conjuncts_text C) (sym (conjuncts_wide C h).0) (conjuncts_graphic C h)

pub keys_part : (K : List OrderKey) → AreShortKeys K → IsPart (keys_text K) (parts.list_text key_text K ∷ [])
keys_part K h = other_word (keys_text K) (parts.list_text key_text K) (keys_same K h) (list_graphic text.key_text IsShortKey key_graphic K h)

sides_part : (C : List Condition) (a b : ℕ) → AreConjuncts C × IsShort a × IsShort b → IsPart (conjuncts_text C ++ (codes " " ++ (decimal a ++ (codes " " ++ decimal b)))) (part_conjuncts_text C ∷ numeral a ∷ numeral b ∷ [])
sides_part C a b h = both_parts _ _ _ _ (conjuncts_part C h.0) (both_parts _ _ _ _ (number_part a h.1) (number_part b h.2))

-- ---- expressions, steps and facts

expr_part : (x : Expr) → IsReadableExpr x → IsPart (expr_text x) (expr_wording.words x)
expr_part (Get o) h = both_parts _ _ _ _ (one_word (codes "get") refl) (number_part o h)
expr_part (Select C k) h = both_parts _ _ _ _ (one_word (codes "select") refl) (both_parts _ _ _ _ (conjuncts_part C h.0) (number_part k h.1))
expr_part (Join C a b) h = both_parts _ _ _ _ (one_word (codes "join") refl) (sides_part C a b h)
expr_part (LeftJoin C a b) h = both_parts _ _ _ _ (one_word (codes "left") refl) (sides_part C a b h)
expr_part (Semi C a b) h = both_parts _ _ _ _ (one_word (codes "semi") refl) (sides_part C a b h)
expr_part (Anti S M a b) h = both_parts _ _ _ _ (one_word (codes "anti") refl) (both_parts _ _ _ _ (conjuncts_part S h.0) (sides_part M a b (h.1, h.2, h.3)))
expr_part (Keep K k) h = both_parts _ _ _ _ (one_word (codes "keep") refl) (both_parts _ _ _ _ (columns_part K h.0) (number_part k h.1))
expr_part (Distinct k) h = both_parts _ _ _ _ (one_word (codes "distinct") refl) (number_part k h)
expr_part (Group K G k) h = both_parts _ _ _ _ (one_word (codes "group") refl) (both_parts _ _ _ _ (columns_part K h.0) (both_parts _ _ _ _ (aggregations_part G h.1) (number_part k h.2)))

step_part : (s : Step) → IsReadableStep s → IsPart (step_text s) (step_wording.words s)
step_part s h = both_parts _ _ _ _ (one_word (code_of s.rule) (code_graphic s.rule)) (both_parts _ _ _ _ (number_part s.pick h.0) (both_parts _ _ _ _ (numbers_part s.uses h.1) (numbers_part s.makes h.2)))

fact_part : (f : Fact) → IsReadableFact f → IsPart (fact_text f) (fact_wording.words f)
fact_part (NotNull k) h = both_parts _ _ _ _ (one_word (codes "notnull") refl) (number_part k h)
fact_part (WeakKey K) h = both_parts _ _ _ _ (one_word (codes "weak") refl) (columns_part K h)
fact_part (StrongKey K) h = both_parts _ _ _ _ (one_word (codes "strong") refl) (columns_part K h)

-- ---- lines

pub line_part : (l : Line) → IsReadableLine l → IsPart (line_words l) (line_wording.words l)
line_part (Founds x) h = both_parts _ _ _ _ (one_word (codes "F") refl) (expr_part x h)
line_part (Adds g s x) h = both_parts _ _ _ _ (one_word (codes "A") refl) (both_parts _ _ _ _ (number_part g h.0) (both_parts _ _ _ _ (step_part s h.1) (expr_part x h.2)))
line_part (Unites g i s) h = both_parts _ _ _ _ (one_word (codes "S") refl) (both_parts _ _ _ _ (number_part g h.0) (both_parts _ _ _ _ (number_part i h.1) (step_part s h.2)))
line_part (Alike i j) h = both_parts _ _ _ _ (one_word (codes "G") refl) (both_parts _ _ _ _ (number_part i h.0) (number_part j h.1))
line_part (Gives g m f) h = both_parts _ _ _ _ (one_word (codes "L") refl) (both_parts _ _ _ _ (number_part g h.0) (both_parts _ _ _ _ (number_part m h.1) (fact_part f h.2)))

abbrev is_printable : ℕ → Bool
is_printable b = b == 32 || is_graphic b

word_printable : (w : Text) → IsGraphic w → list_all is_printable w ≡ true
word_printable w h = pass_more is_graphic is_printable (λ b graphic. grind (arith, nat_tests)) w h

printable_low : (t : Text) → list_all is_printable t ≡ true → AllByRecursion (λ b. b < 128) t
printable_low [] h = tt
printable_low (b ∷ t) h = let parts = and_parts (is_printable b) (list_all is_printable t) h in (low parts.0, printable_low t parts.1) where
  low : is_printable b ≡ true → b < 128
  low passes = grind (arith, nat_tests)

spaced_printable : (w : Text) (ws : List Text) → AreGraphic (w ∷ ws) → list_all is_printable (spaced (w ∷ ws)) ≡ true
spaced_printable w [] free = pass_both is_printable w [] (word_printable w free.0) refl
spaced_printable w (v ∷ ws) free = pass_both is_printable w (32 ∷ spaced (v ∷ ws)) (word_printable w free.0) (spaced_printable v ws free.1)

pub part_line : (t : Text) (ws : List Text) → IsPart t ws → IsLine t
part_line t ws h =
    let printable = ap (list_all is_printable) h.3 ∙ spaced_printable h.0 h.1 h.4 in
    (IsUtf8-from_ascii t (IsAscii-from_all t (All-from_recursion (λ b. b < 128) t (printable_low t printable))), passing_lack is_printable 10 t refl printable)

pub part_cut : (t : Text) (ws : List Text) → IsPart t ws → slice_split (λ b. b == 32) t ≡ ws
part_cut t ws h = ap (slice_split (λ b. b == 32)) h.3 ∙ words_cut h.0 h.1 h.4 ∙ sym h.2

pub line_line : (l : Line) → IsReadableLine l → IsLine (line_words l)
line_line l h = part_line (line_words l) (line_wording.words l) (line_part l h)

-- ---- a line that can be read is read as it

-- what can be read is a value that may stand in a line, and its numbers are in their ranges
abbrev pub IsTaken : {X : Type 0} → Wording X → X → Type 0
IsTaken W x = W.Is x × W.IsInRange x

pub conjuncts_taken : (C : List Condition) → AreConjuncts C → IsTaken conjuncts_wording C
conjuncts_taken C h = ((conjuncts_wide C h).1, (conjuncts_wide C h).2)

sides_taken : (C : List Condition) (a b : ℕ) → AreConjuncts C × IsShort a × IsShort b → IsTaken sides_wording (C, (a, b))
sides_taken C a b h = let taken = conjuncts_taken C h.0 in ((taken.0, (tt, tt)), (taken.1, (h.1, h.2)))

expr_taken : (x : Expr) → IsReadableExpr x → IsTaken expr_wording x
expr_taken (Get o) h = (tt, h)
expr_taken (Select C k) h = let taken = conjuncts_taken C h.0 in ((taken.0, tt), (taken.1, h.1))
expr_taken (Join C a b) h = sides_taken C a b h
expr_taken (LeftJoin C a b) h = sides_taken C a b h
expr_taken (Semi C a b) h = sides_taken C a b h
expr_taken (Anti S M a b) h =
    let taken = conjuncts_taken S h.0 in
    let sides = sides_taken M a b (h.1, h.2, h.3) in
    ((taken.0, sides.0), (taken.1, sides.1))
expr_taken (Keep K k) h = ((h.0.1, tt), (h.0.0, h.1))
expr_taken (Distinct k) h = (tt, h)
expr_taken (Group K G k) h = ((h.0.1, (h.1.1, tt)), (h.0.0, (h.1.0, h.2)))

step_taken : (s : Step) → IsReadableStep s → IsTaken step_wording s
step_taken s h = ((tt, (tt, (tt, tt))), (tt, (h.0, (h.1, h.2))))

fact_taken : (f : Fact) → IsReadableFact f → IsTaken fact_wording f
fact_taken (NotNull k) h = (tt, h)
fact_taken (WeakKey K) h = (h.1, h.0)
fact_taken (StrongKey K) h = (h.1, h.0)

pub line_taken : (l : Line) → IsReadableLine l → IsTaken line_wording l
line_taken (Founds x) h = expr_taken x h
line_taken (Adds g s x) h =
    let step = step_taken s h.1 in
    let expr = expr_taken x h.2 in
    ((tt, (step.0, expr.0)), (h.0, (step.1, expr.1)))
line_taken (Unites g i s) h = let step = step_taken s h.2 in ((tt, (tt, step.0)), (h.0, (h.1, step.1)))
line_taken (Alike i j) h = ((tt, tt), (h.0, h.1))
line_taken (Gives g m f) h = let fact = fact_taken f h.2 in ((tt, (tt, fact.0)), (h.0, (h.1, fact.1)))

pub line_back : (l : Line) (text : Text) (result : Result Line LineFault) → IsReadableLine l → text ≡ line_words l → ReadsLine line_wording (λ l. l) (words_in text) result → UnlessMemory (λ read. read ≡ l) result
line_back l text result h e reads =
    let taken = line_taken l h in
    read_back line_wording (λ l. l) line_told l (words_in text) result taken.0 taken.1 (ap words_in e ∙ part_cut (line_words l) (line_wording.words l) (line_part l h)) reads
