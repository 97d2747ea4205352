-- What a check has accepted.
use Rattle.schema.specs.declared.schema.Schema.{Schema}
use Rattle.query.specs.declared.query.Query.{Query}
use Rattle.certificate.specs.declared.certificate.Certificate.{Certificate}

-- a certificate, with the query and the schema that it was checked against
pub record Accepted : Type 0 where
  pub schema : Schema
  pub query : Query
  pub certificate : Certificate
