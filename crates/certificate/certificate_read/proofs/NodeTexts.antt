-- The text of a node that can be read is that of a node of a line, with its numbers in their ranges. So it is read as it.
use Rattle.std.proofs.Common.{decimal, Bool, true, ◌≡◌, ℕ, ◌+◌, ◌-◌, List, [], ◌∷◌, Result, refl, sym, ◌∙◌, ap, arith, codes}
use Rattle.physical.specs.declared.plan.GroupMethod.TheVariants as group
use Rattle.physical.specs.declared.plan.JoinMethod.TheVariants as method
use Rattle.physical.specs.declared.plan.Matching.{Matching}
use Rattle.physical.specs.declared.plan.Matching.TheVariants as matching
use Rattle.physical.specs.declared.plan.Operator.{Operator}
use Rattle.physical.specs.declared.plan.Operator.TheVariants.{Scan, IndexScan, Filter, FilterSubqueries, Projection, JoinRows, IndexJoin, GroupRows, DistinctRows}
use Rattle.physical.specs.declared.plan.Node.TheVariants.{Implements, Sort}
use Rattle.physical.specs.declared.plan.Node.{Node}
use Rattle.certificate_text.specs.Numerals.{numeral}
use Rattle.certificate_text.specs.Parts.{IsShort}
use Rattle.certificate_text.specs.CertificateText.{Text, ◌␣◌, kind_text, lists_text, operator_text, node_words}
use Rattle.certificate_text.specs.Readable.{IsReadableMatching, IsReadableNode, IsReadableOperator}
use Rattle.certificate_read.specs.declared.line_fault.LineFault.{LineFault}
use Rattle.certificate_read.specs.declared.line_fault.LineFault.TheVariants.{Memory}
use Rattle.certificate_read.specs.declared.nodes.ReadNode.{ReadNode}
use Rattle.certificate_read.specs.declared.node_forms.KindForm.{KindForm}
use Rattle.certificate_read.specs.declared.node_forms.KindForm.TheVariants as kind
use Rattle.certificate_read.specs.declared.node_forms.OperatorForm.{OperatorForm}
use Rattle.certificate_read.specs.declared.node_forms.OperatorForm.TheVariants as operator
use Rattle.certificate_read.specs.declared.node_forms.NodeForm.TheVariants as node
use Rattle.certificate_read.specs.NodeReading.{kind_name, operator_name, ListsParts, lists_behind, matching_of, OperatorParts, operator_behind, operator_of, AnyNode, node_of, node_wording}
use Rattle.certificate_read.specs.TextReading.{IsLine}
use Rattle.certificate_read.specs.WordReading.{UnlessMemory, words_in}
use Rattle.certificate_read.specs.Wordings.{ReadsLine, deep}
use Rattle.certificate_read.proofs.LineTexts.{IsPart, IsGraphic, IsTaken, both_parts, one_word, other_word, number_part, columns_part, aggregations_part, conjuncts_part, keys_part, part_line, part_cut, conjuncts_taken}
use Rattle.certificate_read.proofs.NodeLaws.{node_told}
use Rattle.certificate_read.proofs.WordCalls.{gives_less}
use Rattle.certificate_read.proofs.Wordings.{read_back, deep_told}

-- ---- joins

kind_graphic : (j : Matching) → IsGraphic (kind_text j)
kind_graphic (matching.Inner C) = refl
kind_graphic (matching.Left C) = refl
kind_graphic (matching.Semi C) = refl
kind_graphic (matching.Anti S M) = refl

-- the lists are those of the join, and have its text
abbrev AreLists : Matching → (form : KindForm) → ListsParts form → Type 0
AreLists j form p = (matching_of form p ≡ j) × IsTaken (lists_behind form) p × (kind_text j ≡ kind_name form) × IsPart (lists_text j) ((lists_behind form).words p)

lists_of : (j : Matching) → IsReadableMatching j → (form : KindForm) × (p : ListsParts form) × AreLists j form p
lists_of (matching.Inner C) h = (kind.Inner, C, (refl, conjuncts_taken C h, refl, conjuncts_part C h))
lists_of (matching.Left C) h = (kind.Left, C, (refl, conjuncts_taken C h, refl, conjuncts_part C h))
lists_of (matching.Semi C) h = (kind.Semi, C, (refl, conjuncts_taken C h, refl, conjuncts_part C h))
lists_of (matching.Anti S M) h =
    let first = conjuncts_taken S h.0 in
    let second = conjuncts_taken M h.1 in
    (kind.Anti, (S, M), (refl, ((first.0, second.0), (first.1, second.1)), refl, both_parts _ _ _ _ (conjuncts_part S h.0) (conjuncts_part M h.1)))

pub kind_part : (j : Matching) (form : KindForm) → kind_text j ≡ kind_name form → IsPart (kind_text j) (kind_name form ∷ [])
kind_part j form e = other_word (kind_text j) (kind_name form) e (kind_graphic j)

-- ---- operators

-- the parts are those of the operator with so many inputs, and have its text
abbrev AreParts : Operator → ℕ → ℕ → (form : OperatorForm) → OperatorParts form → Type 0
AreParts o line inputs form p = (operator_of form p ≡ (o, inputs)) × IsTaken (operator_behind form) p × IsPart (operator_text o line inputs) (operator_name form ∷ numeral line ∷ (operator_behind form).words p)

-- the name and the line
pub head_part : (name : Text) (line : ℕ) → IsGraphic name → IsShort line → IsPart (name ␣ decimal line) (name ∷ numeral line ∷ [])
head_part name line free s = both_parts _ _ _ _ (one_word name free) (number_part line s)

-- and what stands behind them
pub named_part : (name : Text) (line : ℕ) (t : Text) (ws : List Text) → IsGraphic name → IsShort line → IsPart t ws → IsPart (name ␣ decimal line ␣ t) (name ∷ numeral line ∷ ws)
named_part name line t ws free s h = both_parts _ _ _ _ (one_word name free) (both_parts _ _ _ _ (number_part line s) h)

parts_of : (o : Operator) (line inputs : ℕ) → IsShort line → IsReadableOperator o inputs → (form : OperatorForm) × (p : OperatorParts form) × AreParts o line inputs form p
parts_of (Scan o) line inputs s h = (operator.Scan, o, ((λ i. (Scan o, sym h.0 i)), (tt, h.1), named_part (codes "scan") line _ _ refl s (number_part o h.1)))
parts_of (IndexScan a C) line inputs s h =
    let taken = conjuncts_taken C h.2 in (
      operator.IndexScan,
      (a.line, (a.instance, (a.index, C))),
      (
        (λ i. (IndexScan a C, sym h.0 i)),
        ((tt, (tt, (tt, taken.0))), (h.1.0, (h.1.1, (h.1.2, taken.1)))),
        named_part (codes "iscan") line _ _ refl s (both_parts _ _ _ _ (number_part a.line h.1.0) (both_parts _ _ _ _ (number_part a.instance h.1.1) (both_parts _ _ _ _ (number_part a.index h.1.2) (conjuncts_part C h.2)))),
      ),
    )
parts_of (Filter C) line inputs s h = (operator.Filter, C, ((λ i. (Filter C, sym h.0 i)), conjuncts_taken C h.1, named_part (codes "filter") line _ _ refl s (conjuncts_part C h.1)))
parts_of (FilterSubqueries C) line inputs s h =
    let taken = conjuncts_taken C h.2 in
    let same : (inputs - 1) + 1 ≡ inputs = omega (arith, h.0) in
    (operator.FilterSubqueries, (C, inputs - 1), ((λ i. (FilterSubqueries C, same i)), ((taken.0, tt), (taken.1, h.1)), named_part (codes "filtersub") line _ _ refl s (both_parts _ _ _ _ (conjuncts_part C h.2) (number_part (inputs - 1) h.1))))
parts_of (Projection K) line inputs s h = (operator.Projection, K, ((λ i. (Projection K, sym h.0 i)), (h.1.1, h.1.0), named_part (codes "cut") line _ _ refl s (columns_part K h.1)))
parts_of (JoinRows method.NestedLoop j) line inputs s h =
    let lists = lists_of j h.1 in
    (operator.NestedLoop, (lists.0, lists.1), ((λ i. (JoinRows method.NestedLoop (lists.2.0 i), sym h.0 i)), lists.2.1, named_part (codes "loop") line _ _ refl s (both_parts _ _ _ _ (kind_part j lists.0 lists.2.2) lists.2.3)))
parts_of (JoinRows method.Hash j) line inputs s h =
    let lists = lists_of j h.1 in
    (operator.HashJoin, (lists.0, lists.1), ((λ i. (JoinRows method.Hash (lists.2.0 i), sym h.0 i)), lists.2.1, named_part (codes "hash") line _ _ refl s (both_parts _ _ _ _ (kind_part j lists.0 lists.2.2) lists.2.3)))
parts_of (JoinRows (method.Merge a b) (matching.Inner C)) line inputs s h =
    let taken = conjuncts_taken C h.1 in (
      operator.MergeJoin,
      (a, (b, C)),
      (
        (λ i. (JoinRows (method.Merge a b) (matching.Inner C), sym h.0 i)),
        ((tt, (tt, taken.0)), (h.2.0, (h.2.1, taken.1))),
        named_part (codes "merge") line _ _ refl s (both_parts _ _ _ _ (number_part a h.2.0) (both_parts _ _ _ _ (number_part b h.2.1) (conjuncts_part C h.1))),
      ),
    )
parts_of (JoinRows (method.Merge a b) (matching.Left C)) line inputs s h = absurd h.2.2
parts_of (JoinRows (method.Merge a b) (matching.Semi C)) line inputs s h = absurd h.2.2
parts_of (JoinRows (method.Merge a b) (matching.Anti S M)) line inputs s h = absurd h.2.2
parts_of (IndexJoin a j) line inputs s h =
    let lists = lists_of j h.2 in (
      operator.IndexJoin,
      (a.line, (lists.0, (a.instance, (a.index, lists.1)))),
      (
        (λ i. (IndexJoin a (lists.2.0 i), sym h.0 i)),
        ((tt, (tt, (tt, lists.2.1.0))), (h.1.0, (h.1.1, (h.1.2, lists.2.1.1)))),
        named_part (codes "iloop") line _ _ refl s (both_parts _ _ _ _ (number_part a.line h.1.0) (both_parts _ _ _ _ (kind_part j lists.0 lists.2.2)
            (both_parts _ _ _ _ (number_part a.instance h.1.1) (both_parts _ _ _ _ (number_part a.index h.1.2) lists.2.3)))),
      ),
    )
parts_of (GroupRows group.Hash K G) line inputs s h =
    (operator.HashGroup, (K, G), ((λ i. (GroupRows group.Hash K G, sym h.0 i)), ((h.1.1, h.2.1), (h.1.0, h.2.0)), named_part (codes "hgroup") line _ _ refl s (both_parts _ _ _ _ (columns_part K h.1) (aggregations_part G h.2))))
parts_of (GroupRows group.Sorted K G) line inputs s h =
    (operator.SortedGroup, (K, G), ((λ i. (GroupRows group.Sorted K G, sym h.0 i)), ((h.1.1, h.2.1), (h.1.0, h.2.0)), named_part (codes "sgroup") line _ _ refl s (both_parts _ _ _ _ (columns_part K h.1) (aggregations_part G h.2))))
parts_of (DistinctRows group.Hash) line inputs s h = (operator.HashDistinct, tt, ((λ i. (DistinctRows group.Hash, sym h i)), (tt, tt), head_part (codes "hdistinct") line refl s))
parts_of (DistinctRows group.Sorted) line inputs s h = (operator.SortedDistinct, tt, ((λ i. (DistinctRows group.Sorted, sym h i)), (tt, tt), head_part (codes "sdistinct") line refl s))

-- ---- nodes

abbrev pub IsNode : Node → ℕ → AnyNode → Type 0
IsNode n inputs x = (node_of x.0 x.1 ≡ record { node = n; inputs = inputs }) × IsTaken node_wording x × IsPart (node_words n inputs) (node_wording.words x)

pub node_parts : (n : Node) (inputs : ℕ) → IsReadableNode n inputs → (x : AnyNode) × IsNode n inputs x
node_parts (Implements line o) inputs h =
    let parts = parts_of o line inputs h.0 h.1 in (
      (node.Implements parts.0, (line, parts.1)),
      (
        (λ i. record { node = Implements line (parts.2.0 i).0; inputs = (parts.2.0 i).1 }),
        ((tt, parts.2.1.0), (h.0, parts.2.1.1)),
        parts.2.2,
      ),
    )
node_parts (Sort K) inputs h =
    ((node.Sort, K), ((λ i. record { node = Sort K; inputs = sym h.0 i }), (tt, h.1), both_parts _ _ _ _ (one_word (codes "sort") refl) (keys_part K h.1)))

pub node_line : (n : Node) (inputs : ℕ) → IsReadableNode n inputs → IsLine (node_words n inputs)
node_line n inputs h = part_line _ _ (node_parts n inputs h).1.2

pub node_back : (n : Node) (inputs : ℕ) (is_within : Bool) (text : Text) (result : Result ReadNode LineFault) → IsReadableNode n inputs → is_within ≡ true → text ≡ node_words n inputs
    → ReadsLine (deep is_within node_wording) (λ x. node_of x.0 x.1) (words_in text) result → UnlessMemory (λ r. (r.node ≡ n) × (r.inputs ≡ inputs)) result
node_back n inputs is_within text result h within e reads =
    let parts = node_parts n inputs h in
    gives_less Memory (λ r. r ≡ node_of parts.0.0 parts.0.1) (λ r. (r.node ≡ n) × (r.inputs ≡ inputs)) result (λ r same. ((λ i. ((same ∙ parts.1.0) i).node), (λ i. ((same ∙ parts.1.0) i).inputs)))
    (read_back (deep is_within node_wording) (λ x. node_of x.0 x.1) (deep_told is_within node_told) parts.0 (words_in text) result (within, parts.1.1.0) parts.1.1.1 (ap words_in e ∙ part_cut _ _ parts.1.2) reads)
