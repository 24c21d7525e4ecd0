-- Looking for sessions: docs/sessions.md.
pub use Rattle.apex_base.specs.Sessions.{has_id, names, shares, session_of, with_session}
