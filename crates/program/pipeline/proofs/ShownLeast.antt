-- Plans that labels show to be the cheapest, from bytes.
use Rattle.std.proofs.Common.{◌≡◌, refl, ap, subst, ℕ, List, reverse, Ok}
use Rattle.std.specs.List.{AllByRecursion}
use Rattle.std.proofs.lemmas.Bool.{false≢true}
use Rattle.values.specs.declared.fault.Fault.{Fault}
use Rattle.values.specs.declared.fault.Fault.TheVariants as fault
use Rattle.values.specs.Faults.{Fails}
use Rattle.schema.specs.declared.schema.Schema.{Schema}
use Rattle.schema.specs.Reading.{schema_of}
use Rattle.statistics.specs.declared.counts.Statistics.{Statistics}
use Rattle.statistics.specs.declared.fault.StatisticsRefusal.{StatisticsRefusal}
use Rattle.statistics.specs.Reading.{statistics_of}
use Rattle.query.specs.declared.query.Query.{Query}
use Rattle.query.specs.Bound.{IsBoundOver}
use Rattle.certificate.proofs.Answers.{checked}
use Rattle.certificate.specs.declared.certificate.Certificate.{Certificate}
use Rattle.certificate.specs.declared.certificate.CheckRefusal.{CheckRefusal}
use Rattle.certificate.specs.Replay.{replayed, IsChecked}
use Rattle.certificate_text.proofs.Exits.{not_both, same_ok}
use Rattle.certificate_text.specs.declared.fault.TextRefusal.{TextRefusal}
use Rattle.certificate_text.specs.Readable.{IsReadableCertificate}
use Rattle.labels.proofs.Least.{labels_show_least}
use Rattle.labels.specs.declared.goal.Label.{Label}
use Rattle.label_text.specs.LabelReading.{RefusesLeast}
use Rattle.label_text.specs.LabelText.{IsReadableLabel}
use Rattle.planner.specs.Searched.{root_goal}
use Rattle.pipeline.specs.declared.refusal.Refusal.{Refusal}
use Rattle.pipeline.specs.declared.refusal.Refusal.TheVariants as refusal
use Rattle.pipeline.specs.EndToEnd.{Asks, IsNoQuery}
use Rattle.pipeline.specs.Least.{AcceptsLeast, IsCheapest, IsCounted, IsLabelledText, IsLeastRefused, IsNotLeast, ShowLeast}
use Rattle.pipeline.specs.Refusals.{of_certificate, of_check, of_statistics}
use Rattle.pipeline.proofs.Acceptance.{is_memory}

-- ---- what labels show

-- so no plan of the lines costs less
pub shown_cheapest : (s : Statistics) (q : Query) (c : Certificate) (labels : List Label) → ShowLeast s q c labels → IsCheapest s q c
shown_cheapest s q c labels shown = labels_show_least s q.tables (reverse c.lines) (root_goal q) c.plan labels shown

pub least_check_refused : (s : Statistics) (q : Query) (c : Certificate) (labels : List Label) (f : Fault CheckRefusal) → Fails f (replayed q c) → IsLeastRefused s q c labels (of_check f)
least_check_refused s q c labels fault.Memory fails = tt
least_check_refused s q c labels (fault.Refused r) fails = fails

-- ---- refusals

pub no_query_least : (schema text statistics labelled : List ℕ) (S : Schema) (r : Refusal) → schema_of schema ≡ Ok S → IsNoQuery text S r → IsNotLeast schema text statistics labelled r
no_query_least schema text statistics labelled S refusal.Memory is h = tt
no_query_least schema text statistics labelled S (refusal.Text r) is h = (S, is, h)
no_query_least schema text statistics labelled S (refusal.Scope r) is h = (S, is, h)
no_query_least schema text statistics labelled S (refusal.Schema r) is h = absurd h
no_query_least schema text statistics labelled S (refusal.Statistics r) is h = absurd h
no_query_least schema text statistics labelled S (refusal.Certificate r) is h = absurd h
no_query_least schema text statistics labelled S (refusal.Check r) is h = absurd h
no_query_least schema text statistics labelled S refusal.NotLeast is h = absurd h
no_query_least schema text statistics labelled S (refusal.Table n r) is h = absurd h
no_query_least schema text statistics labelled S (refusal.TableDevice n) is h = absurd h
no_query_least schema text statistics labelled S refusal.Output is h = absurd h
no_query_least schema text statistics labelled S refusal.TooManyRows is h = absurd h

pub not_counted_least : (schema text statistics labelled : List ℕ) (S : Schema) (q : Query) (f : Fault StatisticsRefusal) → Asks schema text S q → Fails f (statistics_of S statistics)
    → IsNotLeast schema text statistics labelled (of_statistics f)
not_counted_least schema text statistics labelled S q fault.Memory asks fails = tt
not_counted_least schema text statistics labelled S q (fault.Refused r) asks fails = (S, q, asks, fails)

abbrev pub counted : (schema text statistics : List ℕ) (S : Schema) (q : Query) (s : Statistics) → Asks schema text S q → statistics_of S statistics ≡ Ok s → IsCounted schema text statistics
counted schema text statistics S q s asks are = record { S = S; query = q; asks = asks; counts = s; are_counts = are }

-- each text that a certificate with labels has is read, unless memory runs out; another is refused at its first faulty line
pub text_not_least : (schema text statistics labelled : List ℕ) (f : Fault TextRefusal) → IsCounted schema text statistics
    → ((c : Certificate) (labels : List Label) → IsReadableCertificate c → AllByRecursion IsReadableLabel labels → IsLabelledText labelled c labels → f ≡ fault.Memory)
    → RefusesLeast labelled f → IsNotLeast schema text statistics labelled (of_certificate f)
text_not_least schema text statistics labelled fault.Memory a memory first = tt
text_not_least schema text statistics labelled (fault.Refused r) a memory first = (a, ((λ c labels readable are is. false≢true (ap is_memory (memory c labels readable are is))), first))

pub refused_least : (schema text statistics labelled : List ℕ) (a : IsCounted schema text statistics) (c : Certificate) (labels : List Label) (r : Refusal) → IsBoundOver a.S a.query → IsLabelledText labelled c labels
    → IsLeastRefused a.counts a.query c labels r → IsNotLeast schema text statistics labelled r
refused_least schema text statistics labelled a c labels refusal.Memory bound is h = tt
refused_least schema text statistics labelled a c labels (refusal.Check r) bound is h = (a, (c, labels, is, h))
refused_least schema text statistics labelled a c labels refusal.NotLeast bound is h = (a, (c, labels, is, (checked a.S a.query bound c h.0, h.1)))
refused_least schema text statistics labelled a c labels (refusal.Schema r) bound is h = absurd h
refused_least schema text statistics labelled a c labels (refusal.Text r) bound is h = absurd h
refused_least schema text statistics labelled a c labels (refusal.Scope r) bound is h = absurd h
refused_least schema text statistics labelled a c labels (refusal.Statistics r) bound is h = absurd h
refused_least schema text statistics labelled a c labels (refusal.Certificate r) bound is h = absurd h
refused_least schema text statistics labelled a c labels (refusal.Table n r) bound is h = absurd h
refused_least schema text statistics labelled a c labels (refusal.TableDevice n) bound is h = absurd h
refused_least schema text statistics labelled a c labels refusal.Output bound is h = absurd h
refused_least schema text statistics labelled a c labels refusal.TooManyRows bound is h = absurd h

-- ---- what is accepted

abbrev pub accepted_least : (schema text statistics labelled : List ℕ) (a : IsCounted schema text statistics) (c : Certificate) (labels : List Label) → IsLabelledText labelled c labels → IsChecked a.S a.query c
    → ShowLeast a.counts a.query c labels → AcceptsLeast schema text statistics labelled
accepted_least schema text statistics labelled a c labels is checked shown =
    record { asked = a; certificate = c; labels = labels; is_text = is; checked = checked; shown = shown; least = shown_cheapest a.counts a.query c labels shown }

-- ---- nothing but want of memory keeps it from being accepted

pub statistics_read : (statistics : List ℕ) (S : Schema) (s : Statistics) (f : Fault StatisticsRefusal) → statistics_of S statistics ≡ Ok s → Fails f (statistics_of S statistics) → of_statistics f ≡ refusal.Memory
statistics_read statistics S s fault.Memory is fails = refl
statistics_read statistics S s (fault.Refused r) is fails = absurd (not_both (statistics_of S statistics) r s fails is)

pub one_counts : (statistics : List ℕ) (S : Schema) (s t : Statistics) → statistics_of S statistics ≡ Ok s → statistics_of S statistics ≡ Ok t → s ≡ t
one_counts statistics S s t is are = same_ok (statistics_of S statistics) s t is are

pub least_passes : (s : Statistics) (q : Query) (c : Certificate) (labels : List Label) (r : Refusal) → replayed q c ≡ Ok c → ShowLeast s q c labels → IsLeastRefused s q c labels r → r ≡ refusal.Memory
least_passes s q c labels refusal.Memory replays shown h = refl
least_passes s q c labels (refusal.Check r) replays shown h = absurd (not_both (replayed q c) r c h replays)
least_passes s q c labels refusal.NotLeast replays shown h = absurd (h.1 shown)
least_passes s q c labels (refusal.Schema r) replays shown h = absurd h
least_passes s q c labels (refusal.Text r) replays shown h = absurd h
least_passes s q c labels (refusal.Scope r) replays shown h = absurd h
least_passes s q c labels (refusal.Statistics r) replays shown h = absurd h
least_passes s q c labels (refusal.Certificate r) replays shown h = absurd h
least_passes s q c labels (refusal.Table n r) replays shown h = absurd h
least_passes s q c labels (refusal.TableDevice n) replays shown h = absurd h
least_passes s q c labels refusal.Output replays shown h = absurd h
least_passes s q c labels refusal.TooManyRows replays shown h = absurd h

-- so it is of what is the same
pub same_passes : (s t : Statistics) (q p : Query) (c d : Certificate) (labels ls : List Label) (r : Refusal) → s ≡ t → q ≡ p → c ≡ d → labels ≡ ls → replayed p d ≡ Ok d → ShowLeast t p d ls → IsLeastRefused s q c labels r
    → r ≡ refusal.Memory
same_passes s t q p c d labels ls r counts query certificate are replays shown h = least_passes t p d ls r replays shown
    (subst (λ u. IsLeastRefused u p d ls r) counts (subst (λ u. IsLeastRefused s u d ls r) query (subst (λ u. IsLeastRefused s q u ls r) certificate (subst (λ u. IsLeastRefused s q c u r) are h))))
