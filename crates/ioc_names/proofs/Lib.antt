mod NameLaws
mod Tables
