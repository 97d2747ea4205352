-- Plans that are written with their labels, and explained with them, from bytes.
use Rattle.std.proofs.Common.{◌≡◌, ℕ, List, Ok, inl, inr}
use Rattle.values.specs.declared.fault.Fault.{Fault}
use Rattle.values.specs.declared.fault.Fault.TheVariants as fault
use Rattle.values.specs.Faults.{Fails}
use Rattle.schema.specs.declared.schema.Schema.{Schema}
use Rattle.schema.specs.Reading.{schema_of}
use Rattle.statistics.specs.declared.counts.Statistics.{Statistics}
use Rattle.statistics.specs.declared.fault.StatisticsRefusal.{StatisticsRefusal}
use Rattle.statistics.specs.Reading.{statistics_of}
use Rattle.query.specs.declared.query.Query.{Query}
use Rattle.certificate.specs.declared.certificate.Certificate.{Certificate}
use Rattle.certificate.specs.Replay.{IsChecked}
use Rattle.certificate_text.specs.declared.fault.TextRefusal.{TextRefusal}
use Rattle.certificate_text.specs.Limits.{written}
use Rattle.labels.specs.declared.goal.Label.{Label}
use Rattle.label_text.specs.LabelText.{least_text}
use Rattle.pipeline.specs.declared.refusal.Refusal.{Refusal}
use Rattle.pipeline.specs.declared.refusal.Refusal.TheVariants as refusal
use Rattle.pipeline.specs.EndToEnd.{Asks, IsNoQuery}
use Rattle.pipeline.specs.Least.{AreLabelledTexts, ArePlannedTexts, IsCounted, IsNotLabelled, IsUnlabelled, ShowLeast}
use Rattle.pipeline.specs.Refusals.{of_certificate, of_statistics}
use Rattle.pipeline.proofs.Acceptance.{accepted}
use Rattle.pipeline.proofs.ShownLeast.{accepted_least}

-- ---- refusals

pub no_query_labelled : (schema text statistics : List ℕ) (S : Schema) (r : Refusal) → schema_of schema ≡ Ok S → IsNoQuery text S r → IsNotLabelled schema text statistics r
no_query_labelled schema text statistics S refusal.Memory is h = tt
no_query_labelled schema text statistics S (refusal.Text r) is h = (S, is, h)
no_query_labelled schema text statistics S (refusal.Scope r) is h = (S, is, h)
no_query_labelled schema text statistics S (refusal.Schema r) is h = absurd h
no_query_labelled schema text statistics S (refusal.Statistics r) is h = absurd h
no_query_labelled schema text statistics S (refusal.Certificate r) is h = absurd h
no_query_labelled schema text statistics S (refusal.Check r) is h = absurd h
no_query_labelled schema text statistics S refusal.NotLeast is h = absurd h
no_query_labelled schema text statistics S (refusal.Table n r) is h = absurd h
no_query_labelled schema text statistics S (refusal.TableDevice n) is h = absurd h
no_query_labelled schema text statistics S refusal.Output is h = absurd h
no_query_labelled schema text statistics S refusal.TooManyRows is h = absurd h

pub not_counted_labelled : (schema text statistics : List ℕ) (S : Schema) (q : Query) (f : Fault StatisticsRefusal) → Asks schema text S q → Fails f (statistics_of S statistics)
    → IsNotLabelled schema text statistics (of_statistics f)
not_counted_labelled schema text statistics S q fault.Memory asks fails = tt
not_counted_labelled schema text statistics S q (fault.Refused r) asks fails = (S, q, asks, fails)

-- what is over a limit of texts
pub certificate_unlabelled : (S : Schema) (q : Query) (s : Statistics) (c : Certificate) (f : Fault TextRefusal) → IsChecked S q c → Fails f (written c) → IsUnlabelled S q s (of_certificate f)
certificate_unlabelled S q s c fault.Memory checked fails = tt
certificate_unlabelled S q s c (fault.Refused r) checked fails = (c, checked, inl fails)

pub labels_unlabelled : (S : Schema) (q : Query) (s : Statistics) (c : Certificate) (labels : List Label) (f : Fault TextRefusal) → IsChecked S q c → ShowLeast s q c labels → Fails f (least_text c labels)
    → IsUnlabelled S q s (of_certificate f)
labels_unlabelled S q s c labels fault.Memory checked shown fails = tt
labels_unlabelled S q s c labels (fault.Refused r) checked shown fails = (c, checked, inr (labels, shown, fails))

pub unlabelled : (schema text statistics : List ℕ) (a : IsCounted schema text statistics) (r : Refusal) → IsUnlabelled a.S a.query a.counts r → IsNotLabelled schema text statistics r
unlabelled schema text statistics a refusal.Memory h = tt
unlabelled schema text statistics a (refusal.Certificate r) h = (a, h)
unlabelled schema text statistics a (refusal.Schema r) h = absurd h
unlabelled schema text statistics a (refusal.Text r) h = absurd h
unlabelled schema text statistics a (refusal.Scope r) h = absurd h
unlabelled schema text statistics a (refusal.Statistics r) h = absurd h
unlabelled schema text statistics a (refusal.Check r) h = absurd h
unlabelled schema text statistics a refusal.NotLeast h = absurd h
unlabelled schema text statistics a (refusal.Table n r) h = absurd h
unlabelled schema text statistics a (refusal.TableDevice n) h = absurd h
unlabelled schema text statistics a refusal.Output h = absurd h
unlabelled schema text statistics a refusal.TooManyRows h = absurd h

-- ---- what is written

-- it is accepted
pub labelled_texts : (schema text statistics certificate labelled : List ℕ) (a : IsCounted schema text statistics) → ArePlannedTexts a.S a.query a.counts certificate labelled
    → AreLabelledTexts schema text statistics certificate labelled
labelled_texts schema text statistics certificate labelled a texts = record {
  planned = (accepted schema text certificate a.S a.query texts.planned a.asks texts.planned_is texts.planned_checked, texts.planned_readable);
  shown = (
    accepted_least schema text statistics labelled a texts.searched texts.labels texts.searched_is texts.searched_checked texts.shown,
    texts.searched_readable,
    texts.labels_readable,
  );
  cost = texts.cost;
}
