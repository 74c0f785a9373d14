pub mod Partners
