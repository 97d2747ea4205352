-- A line whose words are those of a value with its numbers in their ranges is the value's text.
use Rattle.std.proofs.Common.{◌≡◌, refl, sym, ap, subst, ◌∙◌, arith, ℕ, ◌+◌, ◌-◌, List, [], ◌∷◌, codes, decimal}
use Rattle.std.proofs.lemmas.List.Splits.{join_with_byte-slice_split}
use Rattle.std.specs.List.{join_with_byte}
use Rattle.algebra.specs.declared.condition.Condition.{Condition}
use Rattle.algebra.specs.declared.expr.Expr.{Expr}
use Rattle.algebra.specs.declared.expr.Expr.TheVariants.{Get, Select, Join, LeftJoin, Semi, Anti, Keep, Distinct, Group}
use Rattle.props.specs.declared.fact.Fact.{Fact}
use Rattle.props.specs.declared.fact.Fact.TheVariants.{NotNull, WeakKey, StrongKey}
use Rattle.derivation.specs.declared.line.Step.{Step}
use Rattle.derivation.specs.declared.line.Line.{Line}
use Rattle.derivation.specs.declared.line.Line.TheVariants.{Founds, Adds, Unites, Alike, Gives}
use Rattle.certificate_text.proofs.ConjunctLists.{within_rising}
use Rattle.certificate_text.specs.Numerals.{numeral}
use Rattle.certificate_text.specs.Parts.{IsShort}
use Rattle.certificate_text.specs.CertificateText.{Text, ◌␣◌, kind_text, line_words, lists_text, node_words, operator_text}
use Rattle.certificate_text.specs.Limits.{most_nested}
use Rattle.certificate_text.specs.Readable.{AreConjuncts, IsReadableExpr, IsReadableFact, IsReadableLine, IsReadableMatching, IsReadableNode, IsReadableOperator, IsReadableStep}
use Rattle.certificate_read.specs.declared.nodes.ReadNode.{ReadNode}
use Rattle.certificate_read.specs.declared.node_forms.KindForm.{KindForm}
use Rattle.certificate_read.specs.declared.node_forms.KindForm.TheVariants as kind
use Rattle.certificate_read.specs.declared.node_forms.OperatorForm.{OperatorForm}
use Rattle.certificate_read.specs.declared.node_forms.OperatorForm.TheVariants as operator
use Rattle.certificate_read.specs.declared.node_forms.NodeForm.TheVariants as node
use Rattle.certificate_read.specs.LineReading.{expr_wording, fact_wording, line_wording, step_wording}
use Rattle.certificate_read.specs.NodeReading.{AnyMatching, AnyNode, ListsParts, OperatorParts, kind_name, lists_behind, matching_of, matching_wording, node_of, node_wording, operator_behind, operator_name, operator_of}
use Rattle.certificate_read.specs.WordReading.{conjuncts_wording, words_in}
use Rattle.certificate_read.proofs.LineTexts.{IsPart, IsTaken, aggregations_part, both_parts, columns_part, conjuncts_part, keys_part, line_part, number_part, one_word, part_cut}
use Rattle.certificate_read.proofs.NodeTexts.{head_part, kind_part, named_part}

-- a text whose words are those that another is cut into is that text
pub text_of : (text t : Text) (ws : List Text) → words_in text ≡ ws → IsPart t ws → text ≡ t
text_of text t ws e part = sym (join_with_byte-slice_split 32 text) ∙ ap (join_with_byte 32) (e ∙ sym (part_cut t ws part)) ∙ join_with_byte-slice_split 32 t

-- ---- lines of a derivation

conjuncts_readable : (C : List Condition) → IsTaken conjuncts_wording C → AreConjuncts C
conjuncts_readable C h = within_rising most_nested C h.0 h.1

expr_readable : (x : Expr) → IsTaken expr_wording x → IsReadableExpr x
expr_readable (Get o) h = h.1
expr_readable (Select C k) h = (conjuncts_readable C (h.0.0, h.1.0), h.1.1)
expr_readable (Join C a b) h = (conjuncts_readable C (h.0.0, h.1.0), h.1.1.0, h.1.1.1)
expr_readable (LeftJoin C a b) h = (conjuncts_readable C (h.0.0, h.1.0), h.1.1.0, h.1.1.1)
expr_readable (Semi C a b) h = (conjuncts_readable C (h.0.0, h.1.0), h.1.1.0, h.1.1.1)
expr_readable (Anti S M a b) h = (conjuncts_readable S (h.0.0, h.1.0), conjuncts_readable M (h.0.1.0, h.1.1.0), h.1.1.1.0, h.1.1.1.1)
expr_readable (Keep K k) h = ((h.1.0, h.0.0), h.1.1)
expr_readable (Distinct k) h = h.1
expr_readable (Group K G k) h = ((h.1.0, h.0.0), (h.1.1.0, h.0.1.0), h.1.1.1)

step_readable : (s : Step) → IsTaken step_wording s → IsReadableStep s
step_readable s h = (h.1.1.0, h.1.1.1.0, h.1.1.1.1)

fact_readable : (f : Fact) → IsTaken fact_wording f → IsReadableFact f
fact_readable (NotNull k) h = h.1
fact_readable (WeakKey K) h = (h.1, h.0)
fact_readable (StrongKey K) h = (h.1, h.0)

line_readable : (l : Line) → IsTaken line_wording l → IsReadableLine l
line_readable (Founds x) h = expr_readable x h
line_readable (Adds g s x) h = (h.1.0, step_readable s (h.0.1.0, h.1.1.0), expr_readable x (h.0.1.1, h.1.1.1))
line_readable (Unites g i s) h = (h.1.0, h.1.1.0, step_readable s (h.0.1.1, h.1.1.1))
line_readable (Alike i j) h = h.1
line_readable (Gives g m f) h = (h.1.0, h.1.1.0, fact_readable f (h.0.1.1, h.1.1.1))

pub line_read_back : (text : Text) (v x : Line) → words_in text ≡ line_wording.words x → line_wording.Is x → line_wording.IsInRange x → v ≡ x → (text ≡ line_words v) × IsReadableLine v
line_read_back text v x e is in_range same =
    let can = line_readable x (is, in_range) in
    subst (λ l. (text ≡ line_words l) × IsReadableLine l) (sym same) (text_of text (line_words x) (line_wording.words x) e (line_part x can), can)

-- ---- nodes of a plan

matching_readable : (form : KindForm) (p : ListsParts form) → IsTaken (lists_behind form) p → IsReadableMatching (matching_of form p)
matching_readable kind.Inner C h = conjuncts_readable C h
matching_readable kind.Left C h = conjuncts_readable C h
matching_readable kind.Semi C h = conjuncts_readable C h
matching_readable kind.Anti p h = (conjuncts_readable p.0 (h.0.0, h.1.0), conjuncts_readable p.1 (h.0.1, h.1.1))

operator_readable : (form : OperatorForm) (p : OperatorParts form) → IsTaken (operator_behind form) p → IsReadableOperator (operator_of form p).0 (operator_of form p).1
operator_readable operator.Scan o h = (refl, h.1)
operator_readable operator.IndexScan p h = (refl, (h.1.0, h.1.1.0, h.1.1.1.0), conjuncts_readable p.1.1.1 (h.0.1.1.1, h.1.1.1.1))
operator_readable operator.Filter C h = (refl, conjuncts_readable C h)
operator_readable operator.FilterSubqueries p h = (omega arith, subst IsShort (omega arith) h.1.1, conjuncts_readable p.0 (h.0.0, h.1.0))
operator_readable operator.Projection K h = (refl, (h.1, h.0))
operator_readable operator.NestedLoop j h = (refl, matching_readable j.0 j.1 h, tt)
operator_readable operator.HashJoin j h = (refl, matching_readable j.0 j.1 h, tt)
operator_readable operator.MergeJoin p h = (refl, conjuncts_readable p.1.1 (h.0.1.1, h.1.1.1), (h.1.0, h.1.1.0, tt))
operator_readable operator.IndexJoin p h = (refl, (h.1.0, h.1.1.0, h.1.1.1.0), matching_readable p.1.0 p.1.1.1.1 (h.0.1.1.1, h.1.1.1.1))
operator_readable operator.HashGroup p h = (refl, (h.1.0, h.0.0), (h.1.1, h.0.1))
operator_readable operator.SortedGroup p h = (refl, (h.1.0, h.0.0), (h.1.1, h.0.1))
operator_readable operator.HashDistinct u h = refl
operator_readable operator.SortedDistinct u h = refl

node_readable : (x : AnyNode) → IsTaken node_wording x → IsReadableNode (node_of x.0 x.1).node (node_of x.0 x.1).inputs
node_readable (node.Sort, K) h = (refl, h.1)
node_readable (node.Implements form, p) h = (h.1.0, operator_readable form p.1 (h.0.1, h.1.1))

-- ---- their words

kind_named : (form : KindForm) (p : ListsParts form) → kind_text (matching_of form p) ≡ kind_name form
kind_named kind.Inner C = refl
kind_named kind.Left C = refl
kind_named kind.Semi C = refl
kind_named kind.Anti p = refl

lists_part : (form : KindForm) (p : ListsParts form) → IsTaken (lists_behind form) p → IsPart (lists_text (matching_of form p)) ((lists_behind form).words p)
lists_part kind.Inner C h = conjuncts_part C (conjuncts_readable C h)
lists_part kind.Left C h = conjuncts_part C (conjuncts_readable C h)
lists_part kind.Semi C h = conjuncts_part C (conjuncts_readable C h)
lists_part kind.Anti p h = both_parts _ _ _ _ (conjuncts_part p.0 (conjuncts_readable p.0 (h.0.0, h.1.0))) (conjuncts_part p.1 (conjuncts_readable p.1 (h.0.1, h.1.1)))

join_part : (j : AnyMatching) → IsTaken matching_wording j → IsPart (kind_text (matching_of j.0 j.1) ␣ lists_text (matching_of j.0 j.1)) (matching_wording.words j)
join_part j h = both_parts _ _ _ _ (kind_part (matching_of j.0 j.1) j.0 (kind_named j.0 j.1)) (lists_part j.0 j.1 h)

less_part : (n : ℕ) → IsShort n → IsPart (decimal ((n + 1) - 1)) (numeral n ∷ [])
less_part n s = let same : n ≡ (n + 1) - 1 = omega arith in subst (λ m. IsPart (decimal m) (numeral n ∷ [])) same (number_part n s)

operator_part : (form : OperatorForm) (p : OperatorParts form) (line : ℕ) → IsShort line → IsTaken (operator_behind form) p → IsPart (operator_text (operator_of form p).0 line (operator_of form p).1) (operator_name form ∷ numeral line ∷ (operator_behind form).words p)
operator_part operator.Scan o line s h = named_part (codes "scan") line _ _ refl s (number_part o h.1)
operator_part operator.IndexScan p line s h =
    let C = p.1.1.1 in
    named_part (codes "iscan") line _ _ refl s (both_parts _ _ _ _ (number_part p.0 h.1.0) (both_parts _ _ _ _ (number_part p.1.0 h.1.1.0) (both_parts _ _ _ _ (number_part p.1.1.0 h.1.1.1.0) (conjuncts_part C (conjuncts_readable C (h.0.1.1.1, h.1.1.1.1))))))
operator_part operator.Filter C line s h = named_part (codes "filter") line _ _ refl s (conjuncts_part C (conjuncts_readable C h))
operator_part operator.FilterSubqueries p line s h = named_part (codes "filtersub") line _ _ refl s (both_parts _ _ _ _ (conjuncts_part p.0 (conjuncts_readable p.0 (h.0.0, h.1.0))) (less_part p.1 h.1.1))
operator_part operator.Projection K line s h = named_part (codes "cut") line _ _ refl s (columns_part K (h.1, h.0))
operator_part operator.NestedLoop j line s h = named_part (codes "loop") line _ _ refl s (join_part j h)
operator_part operator.HashJoin j line s h = named_part (codes "hash") line _ _ refl s (join_part j h)
operator_part operator.MergeJoin p line s h = named_part (codes "merge") line _ _ refl s (both_parts _ _ _ _ (number_part p.0 h.1.0) (both_parts _ _ _ _ (number_part p.1.0 h.1.1.0) (conjuncts_part p.1.1 (conjuncts_readable p.1.1 (h.0.1.1, h.1.1.1)))))
operator_part operator.IndexJoin p line s h =
    let form = p.1.0 in
    let lists = p.1.1.1.1 in
    named_part (codes "iloop") line _ _ refl s (both_parts _ _ _ _ (number_part p.0 h.1.0) (both_parts _ _ _ _ (kind_part (matching_of form lists) form (kind_named form lists))
    (both_parts _ _ _ _ (number_part p.1.1.0 h.1.1.0) (both_parts _ _ _ _ (number_part p.1.1.1.0 h.1.1.1.0) (lists_part form lists (h.0.1.1.1, h.1.1.1.1))))))
operator_part operator.HashGroup p line s h = named_part (codes "hgroup") line _ _ refl s (both_parts _ _ _ _ (columns_part p.0 (h.1.0, h.0.0)) (aggregations_part p.1 (h.1.1, h.0.1)))
operator_part operator.SortedGroup p line s h = named_part (codes "sgroup") line _ _ refl s (both_parts _ _ _ _ (columns_part p.0 (h.1.0, h.0.0)) (aggregations_part p.1 (h.1.1, h.0.1)))
operator_part operator.HashDistinct u line s h = head_part (codes "hdistinct") line refl s
operator_part operator.SortedDistinct u line s h = head_part (codes "sdistinct") line refl s

node_part : (x : AnyNode) → IsTaken node_wording x → IsPart (node_words (node_of x.0 x.1).node (node_of x.0 x.1).inputs) (node_wording.words x)
node_part (node.Sort, K) h = both_parts _ _ _ _ (one_word (codes "sort") refl) (keys_part K h.1)
node_part (node.Implements form, p) h = operator_part form p.1 p.0 h.1.0 (h.0.1, h.1.1)

pub node_read_back : (text : Text) (v : ReadNode) (x : AnyNode) → words_in text ≡ node_wording.words x → node_wording.Is x → node_wording.IsInRange x → v ≡ node_of x.0 x.1 → (text ≡ node_words v.node v.inputs) × IsReadableNode v.node v.inputs
node_read_back text v x e is in_range same =
    let taken : IsTaken node_wording x = (is, in_range) in
    subst (λ (v : ReadNode). (text ≡ node_words v.node v.inputs) × IsReadableNode v.node v.inputs) (sym same) (text_of text (node_words (node_of x.0 x.1).node (node_of x.0 x.1).inputs) (node_wording.words x) e (node_part x taken), node_readable x taken)
